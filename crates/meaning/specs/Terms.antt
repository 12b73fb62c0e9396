-- What terms and tests say, with the events and numbers that their variables stand for.
use Rattle.std.specs.Prelude.{ℕ, zero, suc, ◌+◌, Bool, true, false, cond, ◌&&◌, List, [], ◌∷◌, ◌++◌, length, drop, ℤ, pos, negsuc, ◌+ℤ◌, ◌-ℤ◌, ◌*ℤ◌, Ok, Err, Result, ◌==◌, int_div, int_le, int_lt, nat_eq, slice_index_or}
use Rattle.logs.specs.declared.event.Event.{Event}
use Rattle.logs.specs.declared.event.Value.{Value}
use Rattle.logs.specs.declared.event.Value.TheVariants.{Unread, Read}
use Rattle.logs.specs.Events.{code_of, used, empty, blank, event_at}
use Rattle.rules.specs.declared.row.Junction.{Junction}
use Rattle.rules.specs.declared.row.Junction.TheVariants as junction
use Rattle.rules.specs.declared.row.Operation.{Operation}
use Rattle.rules.specs.declared.row.Operation.TheVariants.{Sum, Difference, Product, Quotient}
use Rattle.rules.specs.declared.row.Relation.{Relation}
use Rattle.rules.specs.declared.row.Relation.TheVariants.{Equal, Less, AtMost}
use Rattle.rules.specs.Trees.{Term, constant, time_of, value_of, number_of, reckon, Test, always, not_t, join, compare, term_rows, test_rows}
use Rattle.meaning.specs.declared.verdict.Cause.{Cause}
use Rattle.meaning.specs.declared.verdict.Cause.TheVariants as cause
use Rattle.meaning.specs.declared.verdict.Origin.{Origin}
use Rattle.meaning.specs.declared.verdict.Variable.{Variable}
use Rattle.meaning.specs.declared.verdict.Variable.TheVariants as var
use Rattle.meaning.specs.declared.verdict.Verdict.{Verdict}
use Rattle.meaning.specs.declared.verdict.Verdict.TheVariants.{Holds, Fails, Open}
use Rattle.meaning.specs.Three.{not3, and3, or3}
use Rattle.std.specs.List.{filter}

infixl 65 ◌⊕◌
-- the number that each cause has in a report
abbrev pub cause_number : Cause → ℕ
cause_number cause.Missing = 1
cause_number cause.Several = 2
cause_number cause.Unread = 3
cause_number cause.OutOfRange = 4
cause_number cause.ZeroDivisor = 5

-- Variables.

-- the variables known, each numbered by how many stand before it
abbrev pub Variables : Type 0
Variables = List Variable

abbrev pub ◌⊕◌ : Variables → Variable → Variables
η ⊕ x = η ++ (x ∷ [])

-- what a variable stands for; a rule of a sheet names only known variables, so the defaults here are never met
abbrev pub bound : Variables → ℕ → Variable
bound η a = slice_index_or η a (var.Event blank)

abbrev pub event_in : Variable → Event
event_in (var.Event e) = e
event_in (var.Number v) = blank

abbrev pub value_in : Variable → Value
value_in (var.Event e) = empty
value_in (var.Number v) = v

-- the values of one code, in slot order, from a slot on, and all of them
abbrev pub coded_from : (code : ℕ) → Event → (slot : ℕ) → List Value
coded_from b e k = filter (λ v. nat_eq (code_of v) b) (drop k (used e))

abbrev pub coded : (code : ℕ) → Event → List Value
coded b e = coded_from b e 0

-- Terms.

abbrev pub reading : Value → Result ℤ Cause
reading (Unread c) = Err cause.Unread
reading (Read c k) = Ok k

-- the number of the only value
abbrev pub only : List Value → Result ℤ Cause
only [] = Err cause.Missing
only (v ∷ []) = reading v
only (v ∷ (w ∷ ws)) = Err cause.Several

-- a number of the signed 32-bit range
abbrev pub ranged : ℤ → Result ℤ Cause
ranged k = cond (int_le (negsuc 2147483647) k && int_le k (pos 2147483647)) (Ok k) (Err cause.OutOfRange)

-- a quotient is rounded toward zero
abbrev pub step : Operation → ℤ → ℤ → Result ℤ Cause
step Sum x y = ranged (x +ℤ y)
step Difference x y = ranged (x -ℤ y)
step Product x y = ranged (x *ℤ y)
step Quotient x (pos zero) = Err cause.ZeroDivisor
step Quotient x (pos (suc n)) = ranged (int_div x (pos (suc n)))
step Quotient x (negsuc n) = ranged (int_div x (negsuc n))

-- what the term of a row lacks by itself
abbrev pub blamed : (place row : ℕ) → Result ℤ Cause → Result ℤ Origin
blamed i r (Ok k) = Ok k
blamed i r (Err c) = Err (record { row = r; place = i; cause = c })

-- a step on two operands lacks its value if one of them does, by the first that does
abbrev pub strict : (place row : ℕ) → Operation → Result ℤ Origin → Result ℤ Origin → Result ℤ Origin
strict i r o (Err l) y = Err l
strict i r o (Ok x) (Err l) = Err l
strict i r o (Ok x) (Ok y) = blamed i r (step o x y)

-- the number of the term whose first row is r, in a test asked at place i; the times of a log are always in range
abbrev pub reckoned : Variables → (place row : ℕ) → Term → Result ℤ Origin
reckoned η i r (constant k) = Ok k
reckoned η i r (time_of a) = blamed i r (ranged (pos (event_in (bound η a)).time))
reckoned η i r (value_of a b) = blamed i r (only (coded b (event_in (bound η a))))
reckoned η i r (number_of a) = blamed i r (reading (value_in (bound η a)))
reckoned η i r (reckon o t u) = strict i r o (reckoned η i (r + 1) t) (reckoned η i (r + 1 + length (term_rows t)) u)

-- Tests: holds is yes, fails is no.

abbrev pub answer : Bool → Verdict
answer true = Holds
answer false = Fails

-- open if it lacks a value
abbrev pub answer_of : Result Bool Origin → Verdict
answer_of (Ok b) = answer b
answer_of (Err l) = Open l

abbrev pub related : Relation → ℤ → ℤ → Bool
related Equal x y = int_le x y && int_le y x
related Less x y = int_lt x y
related AtMost x y = int_le x y

-- open if a term lacks its value, by the first that does
abbrev pub compared : Relation → Result ℤ Origin → Result ℤ Origin → Verdict
compared s (Err l) y = Open l
compared s (Ok x) (Err l) = Open l
compared s (Ok x) (Ok y) = answer (related s x y)

abbrev pub joined : Junction → Verdict → Verdict → Verdict
joined junction.And = and3
joined junction.Or = or3

-- the test whose first row is r, asked at place i
abbrev pub tested : Variables → (place row : ℕ) → Test → Verdict
tested η i r always = Holds
tested η i r (not_t t) = not3 (tested η i (r + 1) t)
tested η i r (join j t u) = joined j (tested η i (r + 1) t) (tested η i (r + 1 + length (test_rows t)) u)
tested η i r (compare s t u) = compared s (reckoned η i (r + 1) t) (reckoned η i (r + 1 + length (term_rows t)) u)

-- the test of a row at a place: no if the event's name differs, else its test with that event bound
abbrev pub answer_for : Event → Variables → (row name : ℕ) → Test → (place : ℕ) → Verdict
answer_for e η r a t i = cond (e.name == a) (tested (η ⊕ var.Event e) i r t) Fails

abbrev pub asked : List Event → Variables → (row name : ℕ) → Test → (place : ℕ) → Verdict
asked es η r a t i = answer_for (event_at es i) η r a t i
