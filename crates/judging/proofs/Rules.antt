-- The rule that judge is asked for.
use Rattle.std.proofs.Common.{◌≡◌, ℕ, ◌<◌, ◌≤◌, List, [], length, Some, Ok, sym, refl, ap, ◌∙◌, arith}
use Rattle.std.proofs.lemmas.Option.{cond_some}
use Rattle.std.proofs.lemmas.Bool.{ltb-true, lt-ltb, le-ltb}
use Rattle.logs.specs.declared.event.Event.{Event}
use Rattle.rules.specs.declared.row.Row.{Row}
use Rattle.rules.specs.declared.sheet.Sheet.{Sheet}
use Rattle.rules.specs.Trees.{reach_of}
use Rattle.rules.specs.Sheets.{held, start_in, reach_in}
use Rattle.rules.specs.Written.{rule_at, start_of}
use Rattle.rules.proofs.Parts.{property_is}
use Rattle.rules.proofs.Sheets.{rule_begins, rule_scoped}
use Rattle.meaning.specs.declared.verdict.Verdict.{Verdict}
use Rattle.meaning.specs.Verdicts.{judged}
use Rattle.judging.specs.Judging.{judge_answer}
use Rattle.judging.specs.Machine.{judged_at, Standing}
use Rattle.judging.proofs.Turns.{standing, depth_reach}

-- a rule that has a first row and a reach, and as many working rows
module _ (s : Sheet) (rule room at reach : ℕ) (starts : start_in (held s) rule ≡ Some at) (reaches : reach_in (held s) rule ≡ Ok reach) (enough : reach ≤ room) where
  abbrev all : List Row
  all = (held s).1

  started : (rule < (held s).0) × (start_of all rule ≡ at)
  started = let k = cond_some _ _ _ starts in (ltb-true _ _ k.0, k.1)

  few : reach_of (rule_at all rule) ≤ room
  few = let here = started.0 in let same = rw (lt-ltb rule (held s).0 here) at reaches in let e : reach_of (rule_at all rule) ≡ reach = cc in omega arith

  pub stands : Standing all 0 at 0 room
  stands =
      let p = rule_at all rule in
      let d = depth_reach p in
      let f = few in
      rw (sym started.1) (standing all 0 (start_of all rule) 0 room p (rule_begins s rule started.0) [] refl (rule_scoped s rule started.0) (omega arith))

  pub answers : (es : List Event) (v : Verdict) → v ≡ judged_at es all [] (0, length es) at → Ok v ≡ judge_answer es (held s) rule room
  answers es v e =
      let here = started.0 in
      let same = e ∙ ap (judged_at es all [] (0, length es)) (sym started.1) ∙ ap (judged es [] (0, length es) (start_of all rule)) (property_is all _ _ (rule_begins s rule here)) in
      rw (lt-ltb rule (held s).0 here, le-ltb _ _ few) (ap Ok same)
