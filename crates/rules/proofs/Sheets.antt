-- What every sheet keeps.
use Rattle.std.proofs.Common.{◌≡◌, ℕ, zero, suc, ◌<◌, ◌≤◌, true, List, [], ◌∷◌, length, get_or, arith}
use Rattle.std.proofs.lemmas.Bool.{and_parts}
use Rattle.lists.proofs.Fewness.{items_few}
use Rattle.rules.specs.declared.sheet.Sheet.{Sheet}
use Rattle.rules.specs.Trees.{Property, absence, always, rows, Begins}
use Rattle.rules.specs.Limits.{most_rules, most_rows}
use Rattle.rules.specs.Scoped.{scoped, all_scoped}
use Rattle.rules.specs.Sheets.{held}
use Rattle.rules.specs.Written.{rule_at, start_of}
use Rattle.rules.proofs.Extents.{lawful_writes, begins}
use Rattle.rules.proofs.Taken.{Writes}

one_scoped : (ps : List Property) (i : ℕ) (d : Property) → i < length ps → all_scoped ps ≡ true → scoped [] (get_or ps i d) ≡ true
one_scoped [] i d h e = absurd (omega arith)
one_scoped (p ∷ ps) zero d h e = (and_parts _ _ e).0
one_scoped (p ∷ ps) (suc i) d h e = one_scoped ps i d (omega arith) (and_parts _ _ e).1

pub rows_few : (s : Sheet) → length (held s).1 ≤ most_rows
rows_few s = items_few s.rows

pub rules_few : (s : Sheet) → (held s).0 ≤ most_rules
rules_few s = items_few s.starts

pub sheet_writes : (s : Sheet) → Writes (held s).1 (held s).0
sheet_writes s = lawful_writes (held s).1 (held s).0 s.lawful

module _ (s : Sheet) (i : ℕ) (within : i < (held s).0) where
  pub rule_begins : Begins (held s).1 (start_of (held s).1 i) (rows (rule_at (held s).1 i))
  rule_begins = begins (held s).1 (held s).0 (sheet_writes s) i within

  pub rule_scoped : scoped [] (rule_at (held s).1 i) ≡ true
  rule_scoped =
      let writes = sheet_writes s in
      let many = writes.many in
      one_scoped _ i (absence 0 always) (omega arith) writes.scoped
