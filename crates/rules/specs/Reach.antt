-- How many of some rows begin a property.
use Rattle.std.specs.Prelude.{ℕ, ◌+◌, Bool, cond, List, [], ◌∷◌}
use Rattle.rules.specs.declared.read.Part.TheVariants.{Property}
use Rattle.rules.specs.declared.row.Row.{Row}
use Rattle.rules.specs.Wanted.{part_of, same_part}

abbrev pub is_property : Row → Bool
is_property r = same_part Property (part_of r)

abbrev pub property_rows : List Row → ℕ
property_rows [] = 0
property_rows (r ∷ rs) = cond (is_property r) 1 0 + property_rows rs
