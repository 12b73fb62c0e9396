-- A window halved until the first place with a time of at least a limit is found.
use Rattle.std.proofs.Common.{◌≡◌, ℕ, zero, suc, ◌+◌, ◌-◌, ◌<◌, ◌≤◌, Bool, not, ltb, List, length, sym, refl, ◌∙◌, ⊎_elim, arith}
use Rattle.std.proofs.lemmas.Bool.{cases_lt, lt-ltb, le-ltb}
use Rattle.logs.specs.declared.event.Event.{Event}
use Rattle.logs.specs.Lawful.{NeverFalls, time_at}
use Rattle.meaning.specs.Three.{count}
use Rattle.meaning.specs.Windows.{places, near}
use Rattle.std.specs.List.{range_with_len}
use Rattle.meaning.proofs.Durations.{never_falls, counted, count_empty}

-- the times before `low` are below the limit, and those from `high` on are not
pub record Halved (t : ℕ → ℕ) (limit from to low high : ℕ) : Type 0 where
  pub above : from ≤ low
  pub below : high ≤ to
  pub met : from ≤ to → low ≤ high
  pub empty : to ≤ from → low ≡ from
  pub before : (j : ℕ) → from ≤ j → j < low → t j < limit
  pub behind : (j : ℕ) → high ≤ j → j < to → limit ≤ t j

module _ (es : List Event) (order : NeverFalls es) (limit from to low high middle : ℕ) (fits : to ≤ length es)
    (h : Halved (time_at es) limit from to low high) (inside : low ≤ middle) (less : middle < high) where
  pub halved_up : time_at es middle < limit → Halved (time_at es) limit from to (middle + 1) high
  halved_up k = record {
    above = let a = h.above in omega arith;
    below = h.below;
    met = λ m. omega arith;
    empty = λ m. let a = h.above in let b = h.below in absurd (omega arith);
    before = λ j a b. let c = h.below in let le = never_falls es order j middle (omega arith) (omega arith) in omega arith;
    behind = h.behind;
  }

  pub halved_down : limit ≤ time_at es middle → Halved (time_at es) limit from to low middle
  halved_down k = record {
    above = h.above;
    below = let b = h.below in omega arith;
    met = λ m. inside;
    empty = λ m. let a = h.above in let b = h.below in absurd (omega arith);
    before = h.before;
    behind = λ j a b. let le = never_falls es order middle j a (omega arith) in omega arith;
  }

pub halved_end : (t : ℕ → ℕ) (limit from to low high : ℕ) → Halved t limit from to low high → high ≤ low → low ≡ from + count (λ j. ltb (t j) limit) (places from to)
halved_end t limit from to low high h done = ⊎_elim some none (cases_lt from to)
  where
    some : from < to → low ≡ from + count (λ j. ltb (t j) limit) (places from to)
    some m =
        let e : low ≡ high = let a = h.met (omega arith) in omega arith in
        let b = h.below in
        sym (counted (λ j. ltb (t j) limit) from low to h.above (omega arith) (λ j x y. lt-ltb _ _ (h.before j x y)) (λ j x y. le-ltb _ _ (h.behind j (omega arith) y)))

    none : to ≤ from → low ≡ from + count (λ j. ltb (t j) limit) (places from to)
    none m = h.empty m ∙ sym (count_empty (λ j. ltb (t j) limit) from to m)

count_same : (p q : ℕ → Bool) → ((j : ℕ) → p j ≡ q j) → (n i : ℕ) → count p (range_with_len i n) ≡ count q (range_with_len i n)
count_same p q e zero i = refl
count_same p q e (suc n) i = grind (arith, e i, count_same p q e n (i + 1))

-- before the limit means at least d before the time
far : (d t u : ℕ) → ltb u (t + 1 - d) ≡ not (near d u t)
far d t u = grind arith

pub far_count : (d s : ℕ) (t : ℕ → ℕ) (from to : ℕ) → count (λ j. ltb (t j) (s + 1 - d)) (places from to) ≡ count (λ j. not (near d (t j) s)) (places from to)
far_count d s t from to = count_same _ _ (λ j. far d s (t j)) (to - from) from
