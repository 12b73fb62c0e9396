-- What is said of an input.
use Rattle.std.specs.Prelude.{ℕ, List, length, take, drop, Ok, Err, Result}
use Rattle.lists.specs.declared.ShortList.{ShortList}
use Rattle.lists.specs.ShortLists.{items}
use Rattle.logs.specs.declared.event.Event.{Event}
use Rattle.logs.specs.Checked.{image_answer}
use Rattle.logs.specs.Image.{image_events}
use Rattle.rules.specs.Limits.{most_rules}
use Rattle.rules.specs.Layout.{broken, rule_count, rows_of}
use Rattle.rules.specs.Sheets.{Held, answer_to}
use Rattle.meaning.specs.declared.verdict.Verdict.{Verdict}
use Rattle.reports.specs.declared.input.InputRefusal.{InputRefusal}
use Rattle.reports.specs.Input.{sheet_end, input_answer}
use Rattle.reports.specs.Judged.{verdicts_of}

-- the bytes of the sheet, and those of the image
abbrev pub sheet_bytes : List ℕ → List ℕ
sheet_bytes bs = take (sheet_end bs) bs

abbrev pub image_bytes : List ℕ → List ℕ
image_bytes bs = drop (sheet_end bs) bs

-- whether the rules are judged
abbrev pub admitted : List ℕ → Result (Unit {0}) InputRefusal
admitted bs = input_answer (length bs) (answer_to (broken (sheet_bytes bs))) (image_answer (image_bytes bs))

-- how many rules there are, and the rows of all
abbrev pub sheet_in : List ℕ → Held
sheet_in bs = (rule_count (sheet_bytes bs), rows_of (sheet_bytes bs))

abbrev pub events_in : List ℕ → List Event
events_in bs = image_events (image_bytes bs)

-- a refusal, or the verdicts of all rules
abbrev pub unless_refused : Result (Unit {0}) InputRefusal → List Verdict → Result (List Verdict) InputRefusal
unless_refused (Ok u) verdicts = Ok verdicts
unless_refused (Err refusal) verdicts = Err refusal

abbrev pub report_answer : List ℕ → Result (List Verdict) InputRefusal
report_answer bs = unless_refused (admitted bs) (verdicts_of (events_in bs) (sheet_in bs))

-- what an answer says
abbrev pub told : Result (ShortList Verdict most_rules) InputRefusal → Result (List Verdict) InputRefusal
told (Ok verdicts) = Ok (items verdicts)
told (Err refusal) = Err refusal
