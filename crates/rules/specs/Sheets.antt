-- What a sheet holds, and what its calls answer.
use Rattle.std.specs.Prelude.{◌≡◌, ℕ, true, false, cond, List, length, Some, None, Ok, Err, Option, Result, nat_lt}
use Rattle.lists.specs.ShortLists.{items}
use Rattle.rules.specs.declared.layout.SheetBytes.{SheetBytes}
use Rattle.rules.specs.declared.row.Row.{Row}
use Rattle.rules.specs.declared.sheet.Sheet.{Sheet}
use Rattle.rules.specs.declared.sheet.InspectRefusal.{InspectRefusal}
use Rattle.rules.specs.declared.sheet.InspectRefusal.TheVariants.{Layout}
use Rattle.rules.specs.declared.sheet.ReachRefusal.{ReachRefusal}
use Rattle.rules.specs.declared.sheet.ReachRefusal.TheVariants.{NoSuchRule}
use Rattle.rules.specs.Trees.{reach_of}
use Rattle.rules.specs.Layout.{sized, rule_count, rows_of, broken}
use Rattle.rules.specs.Written.{rule_at, started}

-- how many rules, and all rows
abbrev pub Held : Type 0
Held = ℕ × List Row

abbrev pub held : Sheet → Held
held s = (length (items s.starts), items s.rows)

-- where a rule starts, if there is such a rule
abbrev pub start_in : Held → (rule : ℕ) → Option ℕ
start_in s rule = started s.0 s.1 rule

-- the reach of a rule, if there is such a rule
abbrev pub reach_in : Held → (rule : ℕ) → Result ℕ ReachRefusal
reach_in s rule = cond (nat_lt rule s.0) (Ok (reach_of (rule_at s.1 rule))) (Err NoSuchRule)

-- the number that each refusal has in a report

abbrev pub inspect_refusal_number : InspectRefusal → ℕ
inspect_refusal_number (Layout row) = 6

abbrev pub reach_refusal_number : ReachRefusal → ℕ
reach_refusal_number NoSuchRule = 7

-- bytes are as many as their counts say, or refused at the first row
abbrev pub SizesTell : (bytes : List ℕ) → Result SheetBytes InspectRefusal → Type 0
SizesTell bytes (Ok sheet) = (sized bytes ≡ true) × (sheet.bytes.now ≡ bytes)
SizesTell bytes (Err refusal) = (sized bytes ≡ false) × (refusal ≡ Layout 0)

abbrev pub answer_to : Option ℕ → Result (Unit {0}) InspectRefusal
answer_to None = Ok tt
answer_to (Some row) = Err (Layout row)

abbrev pub held_after : Option ℕ → List ℕ → Held → Held
held_after None bytes former = (rule_count bytes, rows_of bytes)
held_after (Some row) bytes former = former

-- the bytes of a sheet are taken whole, or refused with the first bad row, and the former sheet stays
pub record Inspected (bytes : List ℕ) (former after : Held) (r : Result (Unit {0}) InspectRefusal) : Type 0 where
  pub answer : r ≡ answer_to (broken bytes)
  pub sheet : after ≡ held_after (broken bytes) bytes former
