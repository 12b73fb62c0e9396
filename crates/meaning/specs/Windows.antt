-- Windows: pairs of places, the second outside.
use Rattle.std.specs.Prelude.{ℕ, ◌+◌, ◌-◌, ◌<◌, ◌≤◌, Bool, cond, not, List, ◌==◌, nat_lt}
use Rattle.std.specs.List.{range_with_len}
use Rattle.rules.specs.declared.row.Side.{Side}
use Rattle.rules.specs.declared.row.Side.TheVariants.{After, Before, Given}
use Rattle.meaning.specs.Three.{count}

-- from a place up to another, which is outside
abbrev pub Window : Type 0
Window = ℕ × ℕ

abbrev pub In : Window → ℕ → Type 0
In w i = (w.0 ≤ i) × (i < w.1)

-- the places from one up to another
abbrev pub places : ℕ → ℕ → List ℕ
places from to = range_with_len from (to - from)

abbrev pub within : Window → List ℕ
within w = places w.0 w.1

-- the time u comes less than d after the time t
abbrev pub near : (d t u : ℕ) → Bool
near d t u = nat_lt u (t + d)

-- The window that a scope judges at place i of w, by the times t of the places. A duration d of 0 is none.
-- After i, a duration counts in the places j with t j below t i + d; before i, it passes over those with t j + d at most t i.
abbrev pub window : Side → (times : ℕ → ℕ) → (duration place : ℕ) → Window → Window
window After t d i w = (i + 1, cond (d == 0) w.1 (i + 1 + count (λ j. near d (t i) (t j)) (places (i + 1) w.1)))
window Before t d i w = (cond (d == 0) w.0 (w.0 + count (λ j. not (near d (t j) (t i))) (places w.0 i)), i)
window Given t d i w = w
