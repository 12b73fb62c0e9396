-- What judge answers.
use Rattle.std.specs.Prelude.{ℕ, cond, List, length, Ok, Err, Result, nat_lt}
use Rattle.logs.specs.declared.event.Event.{Event}
use Rattle.rules.specs.Trees.{reach_of}
use Rattle.rules.specs.Sheets.{Held}
use Rattle.rules.specs.Written.{rule_at, start_of}
use Rattle.meaning.specs.declared.verdict.Verdict.{Verdict}
use Rattle.meaning.specs.Verdicts.{verdict}
use Rattle.judging.specs.declared.judge.JudgeRefusal.{JudgeRefusal}
use Rattle.judging.specs.declared.judge.JudgeRefusal.TheVariants.{NoSuchRule, TooFewRows}

-- the number that each refusal has in a report
abbrev pub judge_refusal_number : JudgeRefusal → ℕ
judge_refusal_number NoSuchRule = 7
judge_refusal_number TooFewRows = 11

-- the verdict of a rule over all events of a log, with so many working rows
abbrev pub judge_answer : List Event → Held → (rule room : ℕ) → Result Verdict JudgeRefusal
judge_answer es sheet rule room =
    cond (nat_lt rule sheet.0)
    (cond (nat_lt room (reach_of (rule_at sheet.1 rule))) (Err TooFewRows) (Ok (verdict es (length es) (start_of sheet.1 rule) (rule_at sheet.1 rule))))
    (Err NoSuchRule)
