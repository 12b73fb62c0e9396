-- The rules of a sheet, where they start, and where tests begin.
use Rattle.std.specs.Prelude.{ℕ, Bool, cond, ◌&&◌, List, length, take, Some, None, Option, nat_lt, slice_index_or}
use Rattle.rules.specs.declared.row.Row.{Row}
use Rattle.rules.specs.declared.row.Row.TheVariants.{Not}
use Rattle.rules.specs.declared.read.Part.TheVariants as part
use Rattle.rules.specs.Trees.{Property, absence, always}
use Rattle.rules.specs.Forest.{rules_of, written}
use Rattle.rules.specs.Wanted.{part_of, same_part}

abbrev pub rule_at : List Row → (rule : ℕ) → Property
rule_at all rule = slice_index_or (rules_of all) rule (absence 0 always)

abbrev pub start_of : List Row → (rule : ℕ) → ℕ
start_of all rule = length (written (take rule (rules_of all)))

-- the same, if it is among so many rules
abbrev pub started : (rules : ℕ) → List Row → (rule : ℕ) → Option ℕ
started rules all rule = cond (nat_lt rule rules) (Some (start_of all rule)) None

-- whether there is such a row and a test begins with it
abbrev pub begins_test : List Row → (row : ℕ) → Bool
begins_test all at = nat_lt at (length all) && same_part part.Test (part_of (slice_index_or all at Not))
