-- The verdicts of all rules of a sheet.
use Rattle.std.specs.Prelude.{ℕ, List, map, length}
use Rattle.std.specs.List.{range_with_len}
use Rattle.logs.specs.declared.event.Event.{Event}
use Rattle.rules.specs.Sheets.{Held}
use Rattle.rules.specs.Written.{rule_at, start_of}
use Rattle.meaning.specs.declared.verdict.Verdict.{Verdict}
use Rattle.meaning.specs.Verdicts.{verdict}

-- the verdict of a rule over all events
abbrev pub verdict_of : List Event → Held → (rule : ℕ) → Verdict
verdict_of es sheet rule = verdict es (length es) (start_of sheet.1 rule) (rule_at sheet.1 rule)

-- in the order of the sheet
abbrev pub verdicts_of : List Event → Held → List Verdict
verdicts_of es sheet = map (verdict_of es sheet) (range_with_len 0 sheet.0)
