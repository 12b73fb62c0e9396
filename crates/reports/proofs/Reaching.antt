-- No rule of a sheet needs more working rows than a sheet can have.
use Rattle.std.proofs.Common.{◌≡◌, ℕ, ◌<◌, ◌≤◌, true, List, length, is_ok, Ok, Result, ap, ◌∙◌, arith, length-append, length-drop}
use Rattle.std.proofs.lemmas.Bool.{cond-true, cond-false, lt-ltb, le-ltb}
use Rattle.logs.specs.declared.event.Event.{Event}
use Rattle.rules.specs.declared.row.Row.{Row}
use Rattle.rules.specs.declared.sheet.Sheet.{Sheet}
use Rattle.rules.specs.Trees.{Property, not_p, connect, occurrence, absence, scope, quantify, rows, test_rows, reach_of, Begins}
use Rattle.rules.specs.Sheets.{held}
use Rattle.rules.specs.Written.{rule_at}
use Rattle.rules.proofs.Sheets.{rows_few, rule_begins}
use Rattle.meaning.specs.declared.verdict.Verdict.{Verdict}
use Rattle.judging.specs.declared.judge.JudgeRefusal.{JudgeRefusal}
use Rattle.judging.specs.Judging.{judge_answer}
use Rattle.reports.specs.Judged.{verdict_of}

reach_few : (p : Property) → reach_of p ≤ length (rows p)
reach_few (not_p p) = let inner = reach_few p in omega arith
reach_few (connect c p q) = let first = reach_few p in let second = reach_few q in let h = length-append (rows p) (rows q) in omega arith
reach_few (occurrence a n t) = omega arith
reach_few (absence a t) = omega arith
reach_few (scope s o a d t p) = let inner = reach_few p in let h = length-append (test_rows t) (rows p) in omega arith
reach_few (quantify q a b p) = let inner = reach_few p in omega arith

ok_is : {X E : Type 0} {r : Result X E} {v w : X} → r ≡ Ok v → r ≡ Ok w → v ≡ w
ok_is p q = cc

begun_few : (all : List Row) (at : ℕ) (front : List Row) → Begins all at front → length front ≤ length all
begun_few all at front b = omega (arith, length-append front b.rest, length-drop at all, ap length b.split)

module _ (es : List Event) (s : Sheet) (i : ℕ) (within : i < (held s).0) where
  few : reach_of (rule_at (held s).1 i) ≤ 64
  few = let p = rule_at (held s).1 i in omega (arith, reach_few p, begun_few _ _ _ (rule_begins s i within), rows_few s)

  -- so every rule is judged, and its verdict is the defined one
  module _ (room : ℕ) (enough : room ≡ 64) where
    judged : judge_answer es (held s) i room ≡ Ok (verdict_of es (held s) i)
    judged = cond-true _ _ _ (lt-ltb i (held s).0 within) ∙ cond-false _ _ _ (le-ltb room (reach_of (rule_at (held s).1 i)) (omega (arith, few)))

    pub judged_ok : (r : Result Verdict JudgeRefusal) → r ≡ judge_answer es (held s) i room → is_ok r ≡ true
    judged_ok r e = ap is_ok (e ∙ judged)

    pub judged_is : (r : Result Verdict JudgeRefusal) (v : Verdict) → r ≡ judge_answer es (held s) i room → r ≡ Ok v → v ≡ verdict_of es (held s) i
    judged_is r v e is = ok_is is (e ∙ judged)
