-- Inspect takes exactly the bytes of rules.
use Rattle.std.specs.Prelude.{◌≡◌, ℕ, ◌<◌, true, List, length, None, slice_index_or}
use Rattle.rules.specs.declared.row.Row.TheVariants.{Not}
use Rattle.rules.specs.Trees.{Property}
use Rattle.rules.specs.Forest.{rules_of, written}
use Rattle.rules.specs.Scoped.{all_scoped}
use Rattle.rules.specs.Encoded.{Stands}
use Rattle.rules.specs.Layout.{sized, rule_count, row_count, raw_at, rows_of, broken}

-- the bytes of a sheet with these rules: well sized, and at the place of each row its head and number
pub record Spells (bs : List ℕ) (ps : List Property) : Type 0 where
  pub sizes : sized bs ≡ true
  pub rules : length ps ≡ rule_count bs
  pub count : length (written ps) ≡ row_count bs
  pub heads : (i : ℕ) → i < row_count bs → Stands (raw_at bs (row_count bs) i) (slice_index_or (written ps) i Not)
  pub scoped : all_scoped ps ≡ true

pub record Exact : Type 0 where
  pub taken : (bs : List ℕ) (ps : List Property) → Spells bs ps → (broken bs ≡ None) × (rules_of (rows_of bs) ≡ ps)
  pub only : (bs : List ℕ) → broken bs ≡ None → Spells bs (rules_of (rows_of bs))
