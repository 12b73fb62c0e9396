-- Places of a window, one by one.
use Rattle.std.proofs.Common.{◌≡◌, ℕ, zero, suc, ◌+◌, ◌-◌, ◌<◌, ◌≤◌, ◌⊎◌, ◌∷◌, refl, arith}
use Rattle.meaning.specs.declared.verdict.Verdict.{Verdict}
use Rattle.meaning.specs.declared.verdict.Verdict.TheVariants.{Holds, Fails}
use Rattle.meaning.specs.Three.{not3, and3, all3}
use Rattle.meaning.specs.Windows.{places}
use Rattle.std.specs.List.{range_with_len}

-- the lowest place comes first
pub places_next : (i to : ℕ) → i < to → places i to ≡ i ∷ places (i + 1) to
places_next i to l = grind arith

-- What the connectives say, read backwards.

pub and_holds : (v w : Verdict) → and3 v w ≡ Holds → (v ≡ Holds) × (w ≡ Holds)
and_holds v w e = grind arith

pub and_fails : (v w : Verdict) → and3 v w ≡ Fails → (v ≡ Fails) ⊎ (w ≡ Fails)
and_fails v w e = grind arith

pub fails_and : (v w : Verdict) → (v ≡ Fails) ⊎ (w ≡ Fails) → and3 v w ≡ Fails
fails_and v w e = grind arith

pub not_fails : (v : Verdict) → not3 v ≡ Fails → v ≡ Holds
not_fails v e = grind arith

pub not_holds : (v : Verdict) → not3 v ≡ Holds → v ≡ Fails
not_holds v e = grind arith

-- holds and fails are apart
pub apart : {v : Verdict} → v ≡ Holds → v ≡ Fails → ⊥
apart h k = cc

-- An answer at each of n places from i on.
module _ (f : ℕ → Verdict) where
  run_holds : (i n : ℕ) → all3 (range_with_len i n) f ≡ Holds → (j : ℕ) → i ≤ j → j < i + n → f j ≡ Holds
  run_holds i zero e j l m = absurd (omega arith)
  run_holds i (suc n) e j l m = grind (arith, and_holds (f i) (all3 (range_with_len (i + 1) n) f), run_holds (i + 1) n)

  holds_run : (i n : ℕ) → ((j : ℕ) → i ≤ j → j < i + n → f j ≡ Holds) → all3 (range_with_len i n) f ≡ Holds
  holds_run i zero h = refl
  holds_run i (suc n) h = grind (arith, holds_run (i + 1) n)

  -- some place of a window fails
  abbrev pub FailsIn : ℕ → ℕ → Type 0
  FailsIn i k = (j : ℕ) × (i ≤ j) × (j < k) × (f j ≡ Fails)

  run_fails : (i n : ℕ) → all3 (range_with_len i n) f ≡ Fails → FailsIn i (i + n)
  run_fails i zero e = absurd (apart refl e)
  run_fails i (suc n) e = grind (arith, and_fails (f i) (all3 (range_with_len (i + 1) n) f) e, run_fails (i + 1) n)

  fails_run : (i n j : ℕ) → i ≤ j → j < i + n → f j ≡ Fails → all3 (range_with_len i n) f ≡ Fails
  fails_run i zero j l m e = absurd (omega arith)
  fails_run i (suc n) j l m e = grind (arith, fails_and (f i) (all3 (range_with_len (i + 1) n) f), fails_run (i + 1) n j)

  -- all hold over a window exactly if each does
  pub all_holds : (from to : ℕ) → all3 (places from to) f ≡ Holds → (j : ℕ) → from ≤ j → j < to → f j ≡ Holds
  all_holds from to e j l m = run_holds from (to - from) e j l (omega arith)

  pub holds_all : (from to : ℕ) → ((j : ℕ) → from ≤ j → j < to → f j ≡ Holds) → all3 (places from to) f ≡ Holds
  holds_all from to h = holds_run from (to - from) (λ j l m. h j l (omega arith))

  -- and not all do exactly if one fails
  pub all_fails : (from to : ℕ) → all3 (places from to) f ≡ Fails → FailsIn from to
  all_fails from to e = let r = run_fails from (to - from) e in (r.0, r.1, omega arith, r.3)

  pub fails_all : (from to j : ℕ) → from ≤ j → j < to → f j ≡ Fails → all3 (places from to) f ≡ Fails
  fails_all from to j l m e = fails_run from (to - from) j l (omega arith) e

-- One more place at the end.

pub and_assoc : (u v w : Verdict) → and3 (and3 u v) w ≡ and3 u (and3 v w)
and_assoc u v w = grind arith

-- what holds says nothing
pub and_nothing : (v : Verdict) → and3 v Holds ≡ v
and_nothing v = grind arith

run_push : (f : ℕ → Verdict) (i n : ℕ) → all3 (range_with_len i (suc n)) f ≡ and3 (all3 (range_with_len i n) f) (f (i + n))
run_push f i zero = grind (arith, and_nothing)
run_push f i (suc n) = grind (arith, run_push f (i + 1) n, and_assoc)

pub all_push : (f : ℕ → Verdict) (from to : ℕ) → from ≤ to → all3 (places from (to + 1)) f ≡ and3 (all3 (places from to) f) (f to)
all_push f from to l = grind (arith, run_push f from (to - from))
