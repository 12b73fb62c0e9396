-- Places whose test is no are passed over.
use Rattle.std.proofs.Common.{◌≡◌, ℕ, ◌-◌, ◌≤◌, List, Option}
use Rattle.logs.specs.declared.event.Event.{Event}
use Rattle.rules.specs.declared.row.Row.{Row}
use Rattle.meaning.specs.declared.verdict.Origin.{Origin}
use Rattle.meaning.specs.declared.verdict.Verdict.{Verdict}
use Rattle.meaning.specs.Terms.{Variables}
use Rattle.meaning.specs.Windows.{Window}
use Rattle.judging.specs.declared.working.Scoping.{Scoping}
use Rattle.judging.specs.Sweeps.{order, swept}
use Rattle.judging.specs.Seeking.{delimiter_test}

module _ (es : List Event) (rows : List Row) (sc : Scoping) (s : Verdict) (η : Variables) where
  -- what is answered in the end, over the places of a window
  abbrev Swept : (p : ℕ → Verdict) → Option Origin → List ℕ → Verdict
  Swept p d is = swept sc.pick (delimiter_test es rows sc η) p d s is

  -- of the places of a window, those still to be tried are left
  pub record Trying (all left : Window) : Type 0 where
    pub same : (p : ℕ → Verdict) (d : Option Origin) → Swept p d (order sc.pick all) ≡ Swept p d (order sc.pick left)
    pub inside : left.1 ≤ all.1
    pub less : left.1 - left.0 ≤ all.1 - all.0
