-- The possible delimiters of a scope, found one by one.
use Rattle.std.specs.Prelude.{◌≡◌, ℕ, ◌-◌, ◌<◌, ◌≤◌, true, List, [], ◌∷◌, Some, None, Option}
use Rattle.logs.specs.declared.event.Event.{Event}
use Rattle.logs.specs.Events.{event_at}
use Rattle.logs.specs.Lawful.{time_at}
use Rattle.rules.specs.declared.row.Pick.{Pick}
use Rattle.rules.specs.declared.row.Row.{Row}
use Rattle.rules.specs.Forest.{test_at}
use Rattle.meaning.specs.declared.verdict.Origin.{Origin}
use Rattle.meaning.specs.declared.verdict.Variable.TheVariants as var
use Rattle.meaning.specs.declared.verdict.Verdict.{Verdict}
use Rattle.meaning.specs.Terms.{Variables, ◌⊕◌, asked}
use Rattle.meaning.specs.Windows.{Window}
use Rattle.judging.specs.declared.working.Scoping.{Scoping}
use Rattle.judging.specs.declared.working.Found.{Found}
use Rattle.judging.specs.Sweeps.{order, closed, needed, swept}

-- fewer places are left, none behind the former ones
pub record Fewer (left others : Window) : Type 0 where
  pub inside : others.1 ≤ left.1
  pub less : others.1 - others.0 < left.1 - left.0

pub record NextAt (o : Pick) (left : Window) (r : ℕ × Window) : Type 0 where
  pub same : order o left ≡ r.0 ∷ order o r.1
  pub inside : r.0 < left.1
  pub fewer : Fewer left r.1

-- the next place, and the others, or none
abbrev pub NextPlace : Pick → Window → Option (ℕ × Window) → Type 0
NextPlace o left None = order o left ≡ []
NextPlace o left (Some r) = NextAt o left r

-- the test of a scope's delimiters
abbrev pub delimiter_test : List Event → List Row → Scoping → Variables → ℕ → Verdict
delimiter_test es rows sc η = asked es η sc.test sc.name (test_at rows sc.test)

pub record FoundAt (es : List Event) (rows : List Row) (sc : Scoping) (s : Verdict) (left : Window) (η η' : Variables) (x : Found) : Type 0 where
  pub same : (p : ℕ → Verdict) (d : Option Origin) →
      swept sc.pick (delimiter_test es rows sc η) p d s (order sc.pick left) ≡ swept sc.pick (delimiter_test es rows sc η) p d s (x.place ∷ order sc.pick x.left)
  pub test : x.test ≡ delimiter_test es rows sc η x.place
  pub counts : needed sc.pick s x.test ≡ true
  pub time : x.time ≡ time_at es x.place
  pub bound : η' ≡ η ⊕ var.Event (event_at es x.place)
  pub inside : x.place < left.1
  pub fewer : Fewer left x.left

-- the next delimiter where the property has to be judged, with its event bound, or none; s is what stands so far
abbrev pub Sought : List Event → List Row → Scoping → (s : Verdict) → Window → Variables → Variables → Option Found → Type 0
Sought es rows sc s left η η' None =
    ((p : ℕ → Verdict) (d : Option Origin) → swept sc.pick (delimiter_test es rows sc η) p d s (order sc.pick left) ≡ closed d s) × (η' ≡ η)
Sought es rows sc s left η η' (Some x) = FoundAt es rows sc s left η η' x
