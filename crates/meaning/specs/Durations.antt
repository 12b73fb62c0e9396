-- What a duration keeps.
use Rattle.std.specs.Prelude.{ℕ, zero, suc, ◌+◌, ◌<◌, ◌≤◌, ◌↔◌, List, length}
use Rattle.logs.specs.declared.event.Event.{Event}
use Rattle.logs.specs.Lawful.{NeverFalls, time_at}
use Rattle.rules.specs.declared.row.Side.{Side}
use Rattle.rules.specs.declared.row.Side.TheVariants.{After, Before, Given}
use Rattle.meaning.specs.Windows.{Window, In, window}

-- the places of the window on the side of place i
abbrev pub side : Side → ℕ → Window → Window
side After i w = (i + 1, w.1)
side Before i w = (w.0, i)
side Given i w = w

-- An event at time u is kept beside a delimiter at time t: below t + d after it, above t − d before it. A duration of 0 keeps all.
abbrev pub Kept : Side → (duration t u : ℕ) → Type 0
Kept After zero t u = Unit {0}
Kept After (suc d) t u = u < t + suc d
Kept Before zero t u = Unit {0}
Kept Before (suc d) t u = t < u + suc d
Kept Given d t u = Unit {0}

-- Since times never fall, the events that a duration keeps stand together: a window has exactly them.
abbrev pub Together : Type 0
Together =
    (es : List Event) → NeverFalls es → (s : Side) (d i : ℕ) (w : Window) → In w i → w.1 ≤ length es → (j : ℕ) →
    In (window s (time_at es) d i w) j ↔ (In (side s i w) j × Kept s d (time_at es i) (time_at es j))

pub record Contiguous : Type 0 where
  pub together : Together
