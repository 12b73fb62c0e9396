-- What a rule says of the events in a window.
use Rattle.std.specs.Prelude.{ℕ, ◌+◌, List, [], ◌∷◌, length}
use Rattle.logs.specs.declared.event.Event.{Event}
use Rattle.logs.specs.declared.event.Value.{Value}
use Rattle.logs.specs.Events.{event_at}
use Rattle.logs.specs.Lawful.{time_at}
use Rattle.rules.specs.declared.row.Connective.{Connective}
use Rattle.rules.specs.declared.row.Connective.TheVariants.{Or, And, Implies}
use Rattle.rules.specs.declared.row.Quantifier.{Quantifier}
use Rattle.rules.specs.declared.row.Quantifier.TheVariants.{Forall, Exists}
use Rattle.rules.specs.declared.row.Pick.{Pick}
use Rattle.rules.specs.declared.row.Pick.TheVariants.{First, Last, Each}
use Rattle.rules.specs.Trees.{Property, not_p, connect, occurrence, absence, scope, quantify, rows, test_rows}
use Rattle.meaning.specs.declared.verdict.Origin.{Origin}
use Rattle.meaning.specs.declared.verdict.Variable.TheVariants as var
use Rattle.meaning.specs.declared.verdict.Verdict.{Verdict}
use Rattle.meaning.specs.declared.verdict.Verdict.TheVariants.{Holds, Fails, Open}
use Rattle.meaning.specs.Three.{not3, and3, or3, implies3, all3, any3, at_least3, settle, possible?, first_open}
use Rattle.std.specs.List.{filter}
use Rattle.meaning.specs.Terms.{Variables, ◌⊕◌, bound, event_in, coded, asked}
use Rattle.meaning.specs.Windows.{Window, places, within, window}

-- Scopes, over the answers f of the delimiter's test and p of the inner property at each place.

-- place i delimits: its test, and for first and last no test before it or behind it
abbrev pub delimits : Pick → Window → (ℕ → Verdict) → ℕ → Verdict
delimits Each w f i = f i
delimits First w f i = and3 (f i) (all3 (places w.0 i) (λ j. not3 (f j)))
delimits Last w f i = and3 (f i) (all3 (places (i + 1) w.1) (λ j. not3 (f j)))

-- the possible delimiters, rising
abbrev pub possible : Pick → Window → (ℕ → Verdict) → List ℕ
possible o w f = filter (λ i. possible? (delimits o w f i)) (within w)

-- at the first place where p does not hold: its origin if it is open, else another
abbrev pub blamed_on : Origin → List ℕ → (ℕ → Verdict) → Origin
blamed_on o [] p = o
blamed_on o (i ∷ is) p = elim (p i) [ Holds ↦ blamed_on o is p | Fails ↦ o | Open q ↦ q ]

-- p holds wherever a place delimits; open by the lowest possible delimiter where p does not hold:
-- by p if it is open there, else by the lowest possible delimiter whose test is open
abbrev pub scoped : Pick → Window → (ℕ → Verdict) → (ℕ → Verdict) → Verdict
scoped o w f p =
    let is = possible o w f in
    settle (blamed_on (first_open is f) is p) (all3 (within w) (λ i. implies3 (delimits o w f i) (p i)))

-- Properties.

abbrev pub connected : Connective → Verdict → Verdict → Verdict
connected Or = or3
connected And = and3
connected Implies = implies3

abbrev pub quantified : Quantifier → List Value → (Value → Verdict) → Verdict
quantified Forall vs f = all3 vs f
quantified Exists vs f = any3 vs f

-- the property whose first row is r, judged in the window w with the variables η
abbrev pub judged : List Event → Variables → Window → (row : ℕ) → Property → Verdict
judged es η w r (not_p p) = not3 (judged es η w (r + 1) p)
judged es η w r (connect c p q) = connected c (judged es η w (r + 1) p) (judged es η w (r + 1 + length (rows p)) q)
judged es η w r (occurrence a n t) = at_least3 n (within w) (asked es η (r + 1) a t)
judged es η w r (absence a t) = not3 (at_least3 1 (within w) (asked es η (r + 1) a t))
judged es η w r (scope s o a d t p) =
    scoped o w (asked es η (r + 1) a t)
    (λ i. judged es (η ⊕ var.Event (event_at es i)) (window s (time_at es) d i w) (r + 1 + length (test_rows t)) p)
judged es η w r (quantify q a b p) = quantified q (coded b (event_in (bound η a))) (λ v. judged es (η ⊕ var.Number v) w (r + 1) p)

-- the verdict of the rule that starts at a row, over the first n events
abbrev pub verdict : List Event → (n row : ℕ) → Property → Verdict
verdict es n r p = judged es [] (0, n) r p
