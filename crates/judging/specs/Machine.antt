-- What a judging that has come part of the way will answer, and in how many turns at most.
use Rattle.std.specs.Prelude.{◌≡◌, ℕ, suc, ◌+◌, ◌-◌, ◌*◌, ◌<◌, ◌≤◌, max, Bool, true, false, List, [], ◌∷◌, length, take, Some, None, Option}
use Rattle.logs.specs.declared.event.Event.{Event}
use Rattle.logs.specs.Events.{slot_count, event_at}
use Rattle.logs.specs.Lawful.{most_events, time_at}
use Rattle.rules.specs.declared.row.Connective.{Connective}
use Rattle.rules.specs.declared.row.Connective.TheVariants.{Or, And, Implies}
use Rattle.rules.specs.declared.row.Quantifier.{Quantifier}
use Rattle.rules.specs.declared.row.Quantifier.TheVariants.{Forall, Exists}
use Rattle.rules.specs.declared.row.Row.{Row}
use Rattle.rules.specs.Trees.{Property, not_p, connect, occurrence, absence, scope, quantify, rows, test_rows, Begins}
use Rattle.rules.specs.Forest.{property_at, test_at}
use Rattle.rules.specs.Limits.{deepest}
use Rattle.rules.specs.Wanted.{Sorts}
use Rattle.rules.specs.Scoped.{scoped as well_scoped}
use Rattle.meaning.specs.declared.verdict.Origin.{Origin}
use Rattle.meaning.specs.declared.verdict.Variable.TheVariants as var
use Rattle.meaning.specs.declared.verdict.Verdict.{Verdict}
use Rattle.meaning.specs.declared.verdict.Verdict.TheVariants.{Holds, Fails, Open}
use Rattle.meaning.specs.Three.{not3, and3, or3}
use Rattle.meaning.specs.Terms.{Variables, ◌⊕◌, bound, event_in, coded_from}
use Rattle.meaning.specs.Windows.{Window, window}
use Rattle.meaning.specs.Verdicts.{connected, quantified, judged}
use Rattle.judging.specs.declared.progress.Progress.{Progress}
use Rattle.std.specs.declared.ops.ControlFlow.{ControlFlow}
use Rattle.std.specs.declared.ops.ControlFlow.TheVariants.{Break, Continue}
use Rattle.judging.specs.declared.working.JudgingRow.{JudgingRow}
use Rattle.judging.specs.declared.working.JudgingRow.TheVariants.{Negation, Left, Right, Values, Places}
use Rattle.judging.specs.declared.working.PlacesRow.{PlacesRow}
use Rattle.judging.specs.declared.working.Quantifying.{Quantifying}
use Rattle.judging.specs.declared.working.Scoping.{Scoping}
use Rattle.judging.specs.declared.working.ValuesRow.{ValuesRow}
use Rattle.judging.specs.declared.working.Turn.{Turn}
use Rattle.judging.specs.declared.working.Turn.TheVariants.{Ask, Told}
use Rattle.lists.specs.ShortLists.{items}
use Rattle.judging.specs.Seeking.{delimiter_test}
use Rattle.judging.specs.Sweeps.{order, absorbed, swept}
use Rattle.stacks.specs.Stacks.{held, room}

-- What is answered.

-- the verdict of a connective that its left side decides
abbrev pub decided : Connective → Verdict → Option Verdict
decided Or Holds = Some Holds
decided Or Fails = None
decided Or (Open o) = None
decided And Holds = None
decided And Fails = Some Fails
decided And (Open o) = None
decided Implies Holds = None
decided Implies Fails = Some Holds
decided Implies (Open o) = None

-- a quantifier before its first value, with one more, and once further values cannot change it
abbrev pub start : Quantifier → Verdict
start Forall = Holds
start Exists = Fails

abbrev pub combined : Quantifier → Verdict → Verdict → Verdict
combined Forall = and3
combined Exists = or3

abbrev pub settles : Quantifier → Verdict → Bool
settles Forall Holds = false
settles Forall Fails = true
settles Forall (Open o) = false
settles Exists Holds = true
settles Exists Fails = false
settles Exists (Open o) = false

module _ (es : List Event) (rs : List Row) where
  -- the property at a row
  abbrev pub judged_at : Variables → Window → (at : ℕ) → Verdict
  judged_at η w at = judged es η w at (property_at rs at)

  -- the property of a scope at each place
  abbrev pub inner : Scoping → Variables → Window → ℕ → Verdict
  inner sc η w i = judged_at (η ⊕ var.Event (event_at es i)) (window sc.side (time_at es) sc.duration i w) sc.body

  -- a scope, over the places still to be tried
  abbrev pub sweeping : Scoping → Variables → Window → Option Origin → Verdict → Window → Verdict
  sweeping sc η w d u left = swept sc.pick (delimiter_test es rs sc η) (inner sc η w) d u (order sc.pick left)

  abbrev pub continued : Scoping → Variables → Window → Option Origin → Window → ControlFlow Verdict Verdict → Verdict
  continued sc η w d left (Break v) = v
  continued sc η w d left (Continue u) = sweeping sc η w d u left

  -- a quantifier, over the values from a slot on
  abbrev pub gathering : Quantifying → Variables → Window → Verdict → (slot : ℕ) → Verdict
  gathering q η w u k =
      combined q.quantifier u
      (quantified q.quantifier (coded_from q.code (event_in (bound η q.variable)) k) (λ v. judged_at (η ⊕ var.Number v) w q.body))

  -- what is answered in the end, where the property that the newest row waits for has the verdict v
  abbrev pub resume : Variables → List JudgingRow → Verdict → Verdict
  resume η [] v = v
  resume η (Negation ∷ s) v = resume η s (not3 v)
  resume η (Left x ∷ s) v = resume (take x.depth η) s (connected x.connective v (judged_at (take x.depth η) x.window x.right))
  resume η (Right c u ∷ s) v = resume η s (connected c u v)
  resume η (Values x ∷ s) v =
      resume (take x.depth η) s (gathering x.quantifying (take x.depth η) x.window (combined x.quantifying.quantifier x.verdict v) x.next)
  resume η (Places x ∷ s) v =
      resume (take x.depth η) s (continued x.scoping (take x.depth η) x.window x.lowest x.left (absorbed x.scoping.pick x.test x.lowest x.verdict v))

  abbrev pub worth : Variables → Turn → List JudgingRow → Verdict
  worth η (Ask at w) s = resume η s (judged_at η w at)
  worth η (Told v) s = resume η s v

-- In how many turns.

abbrev pub steps : Property → ℕ
steps (not_p p) = 2 + steps p
steps (connect c p q) = 3 + (steps p + steps q)
steps (occurrence a n t) = 1
steps (absence a t) = 1
steps (scope s o a d t p) = 2 + most_events * (1 + steps p)
steps (quantify q a b p) = 2 + slot_count * (1 + steps p)

module _ (rs : List Row) where
  abbrev pub steps_at : ℕ → ℕ
  steps_at at = steps (property_at rs at)

  abbrev pub pending : List JudgingRow → ℕ
  pending [] = 0
  pending (Negation ∷ s) = 1 + pending s
  pending (Left x ∷ s) = 2 + (steps_at x.right + pending s)
  pending (Right c u ∷ s) = 1 + pending s
  pending (Values x ∷ s) = 1 + ((slot_count - x.next) * (1 + steps_at x.quantifying.body) + pending s)
  pending (Places x ∷ s) = 1 + ((x.left.1 - x.left.0) * (1 + steps_at x.scoping.body) + pending s)

  abbrev pub turns_left : Turn → List JudgingRow → ℕ
  turns_left (Ask at w) s = steps_at at + pending s
  turns_left (Told v) s = pending s

-- In how many working rows.

-- how deep the rows of a property enclose one another
abbrev pub depth_of : Property → ℕ
depth_of (not_p p) = suc (depth_of p)
depth_of (connect c p q) = suc (max (depth_of p) (depth_of q))
depth_of (occurrence a n t) = 0
depth_of (absence a t) = 0
depth_of (scope s o a d t p) = suc (depth_of p)
depth_of (quantify q a b p) = suc (depth_of p)

-- a property stands at a row, with m variables known, and finds room above n working rows
pub record Standing (rs : List Row) (m at n room : ℕ) : Type 0 where
  pub begins : Begins rs at (rows (property_at rs at))
  pub sorts : Sorts
  pub many : length sorts ≡ m
  pub fits : well_scoped sorts (property_at rs at) ≡ true
  pub deep : n + depth_of (property_at rs at) ≤ room

module _ (es : List Event) (rs : List Row) (room : ℕ) where
  -- the property of a quantifier can be judged with one more variable and one more working row
  pub record ValuesReady (m n : ℕ) (q : Quantifying) (w : Window) : Type 0 where
    pub body : Standing rs (m + 1) q.body (n + 1) room
    pub space : m < deepest
    pub inside : w.1 ≤ length es

  -- the test and the property of a scope can be judged so, at the places left
  pub record PlacesReady (m n : ℕ) (sc : Scoping) (w left : Window) : Type 0 where
    pub body : Standing rs (m + 1) sc.body (n + 1) room
    pub test : Begins rs sc.test (test_rows (test_at rs sc.test))
    pub space : m < deepest
    pub inside : w.1 ≤ length es
    pub within : left.1 ≤ w.1

  -- the right side of a connective can be judged with one more working row
  pub record RightReady (m n right : ℕ) (w : Window) : Type 0 where
    pub side : Standing rs m right (n + 1) room
    pub inside : w.1 ≤ length es

  -- the rows that wait find what they wait for
  abbrev pub Waits : Variables → List JudgingRow → Type 0
  Waits η [] = Unit {0}
  Waits η (Negation ∷ s) = Waits η s
  Waits η (Left x ∷ s) = RightReady (length (take x.depth η)) (length s) x.right x.window × Waits (take x.depth η) s
  Waits η (Right c u ∷ s) = Waits η s
  Waits η (Values x ∷ s) = ValuesReady (length (take x.depth η)) (length s) x.quantifying x.window × Waits (take x.depth η) s
  Waits η (Places x ∷ s) = PlacesReady (length (take x.depth η)) (length s) x.scoping x.window x.left × Waits (take x.depth η) s

  pub record Asking (η : Variables) (at : ℕ) (w : Window) (s : List JudgingRow) : Type 0 where
    pub stands : Standing rs (length η) at (length s) room
    pub inside : w.1 ≤ length es
    pub waits : Waits η s

  abbrev pub Valid : Variables → Turn → List JudgingRow → Type 0
  Valid η (Ask at w) s = Asking η at w s
  Valid η (Told v) s = Waits η s

  -- one turn: what is answered in the end is v, and it is reached in fewer turns
  pub record Onward (η : Variables) (t : Turn) (s : List JudgingRow) (v : Verdict) (turns : ℕ) : Type 0 where
    pub valid : Valid η t s
    pub same : worth es rs η t s ≡ v
    pub nearer : turns_left rs t s < turns

-- A judging in progress.

-- one more row finds room to wait
abbrev pub HasRoom : Progress → Type 0
HasRoom p = length (held p.stack) < room p.stack

module _ (es : List Event) (rs : List Row) where
  -- what waits is ready, with nothing or with one more row on top
  abbrev pub Waiting : Progress → List JudgingRow → Type 0
  Waiting p s = Waits es rs (room p.stack) (items p.known) s

  -- a row can be judged, the values of a quantifier can be gone through, and the places of a scope
  abbrev pub ReadyAt : Progress → (at : ℕ) → Window → Type 0
  ReadyAt p at w = Asking es rs (room p.stack) (items p.known) at w (held p.stack)

  abbrev pub ReadyForValues : Progress → ValuesRow → Type 0
  ReadyForValues p x =
      ValuesReady es rs (room p.stack) (length (items p.known)) (length (held p.stack)) x.quantifying x.window × Waiting p (held p.stack)

  abbrev pub ReadyForPlaces : Progress → PlacesRow → Type 0
  ReadyForPlaces p x =
      PlacesReady es rs (room p.stack) (length (items p.known)) (length (held p.stack)) x.scoping x.window x.left × Waiting p (held p.stack)

  -- one turn from p on, after which q stands: from a row, from a verdict that a row waits for,
  -- from the places of a scope that are still to be tried, and from the values of a quantifier that are still to come

  pub record Nearer (p q : Progress) (t : Turn) (v : Verdict) (turns : ℕ) : Type 0 where
    pub space : room q.stack ≡ room p.stack
    pub onward : Onward es rs (room q.stack) (items q.known) t (held q.stack) v turns

  abbrev pub OnwardAsked : Progress → (at : ℕ) → Window → Progress → Turn → Type 0
  OnwardAsked p at w q t = Nearer p q t (worth es rs (items p.known) (Ask at w) (held p.stack)) (turns_left rs (Ask at w) (held p.stack))

  abbrev pub OnwardTold : Progress → JudgingRow → Verdict → Progress → Turn → Type 0
  OnwardTold p x v q t = Nearer p q t (worth es rs (items p.known) (Told v) (x ∷ held p.stack)) (turns_left rs (Told v) (x ∷ held p.stack))

  abbrev pub OnwardTried : Progress → PlacesRow → Progress → Turn → Type 0
  OnwardTried p x q t =
      Nearer p q t (resume es rs (items p.known) (held p.stack) (sweeping es rs x.scoping (items p.known) x.window x.lowest x.verdict x.left)) (pending rs (Places x ∷ held p.stack))

  abbrev pub OnwardValued : Progress → ValuesRow → Progress → Turn → Type 0
  OnwardValued p x q t =
      Nearer p q t (resume es rs (items p.known) (held p.stack) (gathering es rs x.quantifying (items p.known) x.window x.verdict x.next)) (pending rs (Values x ∷ held p.stack))
