-- Worked cases: rules over a small log, and what is said of them.
use Rattle.std.specs.Prelude.{◌≡◌, ℕ, List, [], ◌∷◌, map, length, ℤ, pos, negsuc}
use Rattle.logs.specs.declared.event.Event.{Event}
use Rattle.logs.specs.declared.event.Value.{Value}
use Rattle.logs.specs.declared.event.Value.TheVariants.{Unread, Read}
use Rattle.rules.specs.declared.row.Operation.TheVariants.{Quotient}
use Rattle.rules.specs.declared.row.Pick.TheVariants.{First, Last, Each}
use Rattle.rules.specs.declared.row.Relation.TheVariants.{Equal}
use Rattle.rules.specs.declared.row.Side.TheVariants.{After, Before}
use Rattle.rules.specs.Trees.{Test, always, compare, constant, value_of, reckon, Property, occurrence, absence, scope}
use Rattle.meaning.specs.declared.verdict.Cause.{Cause}
use Rattle.meaning.specs.declared.verdict.Cause.TheVariants as cause
use Rattle.meaning.specs.declared.verdict.Verdict.{Verdict}
use Rattle.meaning.specs.declared.verdict.Verdict.TheVariants.{Holds, Fails, Open}
use Rattle.meaning.specs.Verdicts.{verdict}

-- events without a value, and with one
abbrev pub bare : (time name : ℕ) → Event
bare t n = record { time = t; name = n; count = 0; slots = Unread 0 ∷ Unread 0 ∷ Unread 0 ∷ Unread 0 ∷ [] }

abbrev pub valued : (time name : ℕ) → Value → Event
valued t n v = record { time = t; name = n; count = 1; slots = v ∷ Unread 0 ∷ Unread 0 ∷ Unread 0 ∷ [] }

-- the log, with the value of place 2 unread, or filled in
abbrev pub log_with : Value → List Event
log_with v = bare 0 1 ∷ valued 5 2 (Read 7 (pos 3)) ∷ valued 9 2 v ∷ bare 12 3 ∷ []

abbrev pub unread : List Event
unread = log_with (Unread 7)

abbrev pub filled : ℕ → List Event
filled n = log_with (Read 7 (pos n))

-- the value with code 7 equals 3
abbrev pub is_three : Test
is_three = compare Equal (value_of 0 7) (constant (pos 3))

abbrev pub occurs_three : (times : ℕ) → Property
occurs_three times = occurrence 2 times is_three

abbrev pub followed : Property
followed = scope After Each 2 0 always (occurrence 3 1 always)

abbrev pub last_three : Property
last_three = scope After Last 2 0 is_three (absence 2 always)

abbrev pub two_within : (duration : ℕ) → Property
two_within d = scope After First 1 d always (occurrence 2 2 always)

abbrev pub none_before : Property
none_before = scope Before First 3 0 always (absence 1 always)

-- x / y equals z, asked at the events of name 1
abbrev pub divides : (x y z : ℤ) → Property
divides x y z = occurrence 1 1 (compare Equal (reckon Quotient (constant x) (constant y)) (constant z))

abbrev pub open_by : (row place : ℕ) → Cause → Verdict
open_by r i c = Open (record { row = r; place = i; cause = c })

-- a log, a rule that starts at row 0, and its verdict
pub record Case : Type 0 where
  pub log : List Event
  pub rule : Property
  pub says : Verdict

abbrev pub case : List Event → Property → Verdict → Case
case es p v = record { log = es; rule = p; says = v }

abbrev pub table : List Case
table =
    case unread (occurs_three 1) Holds
    ∷ case unread (occurs_three 2) (open_by 2 2 cause.Unread)
    ∷ case (filled 3) (occurs_three 2) Holds
    ∷ case (filled 4) (occurs_three 2) Fails
    ∷ case unread followed Holds
    ∷ case unread last_three (open_by 2 2 cause.Unread)
    ∷ case (filled 3) last_three Holds
    ∷ case (filled 4) last_three Fails
    ∷ case unread (two_within 9) Fails
    ∷ case unread (two_within 10) Holds
    ∷ case unread none_before Fails
    ∷ case [] followed Holds
    ∷ case [] (occurs_three 0) Holds
    ∷ case [] (occurs_three 1) Fails
    ∷ case unread (divides (negsuc 6) (pos 2) (negsuc 2)) Holds
    ∷ case unread (divides (negsuc 6) (pos 2) (negsuc 3)) Fails
    ∷ case unread (divides (negsuc 2147483647) (negsuc 0) (pos 0)) (open_by 2 0 cause.OutOfRange)
    ∷ case unread (divides (pos 5) (pos 0) (pos 0)) (open_by 2 0 cause.ZeroDivisor)
    ∷ []

abbrev pub judged_case : Case → Verdict
judged_case c = verdict c.log (length c.log) 0 c.rule

-- each case is judged as is said
abbrev pub Stand : Type 0
Stand = map judged_case table ≡ map (λ c. c.says) table
