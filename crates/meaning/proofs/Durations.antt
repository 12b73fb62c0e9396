-- The events that a duration keeps stand together.
use Rattle.std.proofs.Common.{◌≡◌, ℕ, zero, suc, ◌+◌, ◌-◌, ◌<◌, ◌≤◌, Bool, true, false, not, eqb, List, length, inl, inr, arith}
use Rattle.std.proofs.lemmas.Bool.{cases_lt, cases_Bool, both_ways, ltb-true, ltb-false, lt-ltb, le-ltb, not-false, not_from_true}
use Rattle.logs.specs.declared.event.Event.{Event}
use Rattle.logs.specs.Lawful.{NeverFalls, time_at}
use Rattle.rules.specs.declared.row.Side.TheVariants.{After, Before, Given}
use Rattle.meaning.specs.Three.{count}
use Rattle.meaning.specs.Windows.{places, near}
use Rattle.std.specs.List.{range_with_len}
use Rattle.meaning.specs.Durations.{Together, Contiguous}

-- times never fall from a place to any later one
pub never_falls : (es : List Event) → NeverFalls es → (i j : ℕ) → i ≤ j → j < length es → time_at es i ≤ time_at es j
never_falls es n i j l m = let q : i + (j - i) ≡ j = omega arith in rw q at (go (j - i) (omega arith))
  where
    go : (k : ℕ) → i + k < length es → time_at es i ≤ time_at es (i + k)
    go zero m = let q : i + 0 ≡ i = omega arith in rw q (omega arith)
    go (suc k) m = let q : i + suc k ≡ i + k + 1 = omega arith in rw q (omega (arith, go k (omega arith), n (i + k) (omega arith)))

module _ (q : ℕ → Bool) where
  -- the test q turns from true to false at place r, among the places from a to b
  record Turns (a r b : ℕ) : Type 0 where
    low : a ≤ r
    high : r ≤ b
    true_before : (j : ℕ) → a ≤ j → j < r → q j ≡ true
    false_behind : (j : ℕ) → r ≤ j → j < b → q j ≡ false

  -- the places before the turn are those that pass
  counted_run : (n a r : ℕ) → Turns a r (a + n) → a + count q (range_with_len a n) ≡ r
  counted_run zero a r t = omega arith
  counted_run (suc n) a r t =
      elim (cases_lt a r) [
        | inl l ↦
            rw (t.true_before a (omega arith) l) (omega (
              arith,
              counted_run n (a + 1) r (record {
                low = omega arith;
                high = omega arith;
                true_before = λ j m k. t.true_before j (omega arith) k;
                false_behind = λ j m k. t.false_behind j m (omega arith);
              }),
            ))
        | inr l ↦
            rw (t.false_behind a l (omega arith)) (omega (
              arith,
              counted_run n (a + 1) (a + 1) (record {
                low = omega arith;
                high = omega arith;
                true_before = λ j m k. absurd (omega arith);
                false_behind = λ j m k. t.false_behind j (omega arith) (omega arith);
              }),
            ))
      ]

  -- so their count says where the turn is
  pub counted : (a r b : ℕ) → a ≤ r → r ≤ b → ((j : ℕ) → a ≤ j → j < r → q j ≡ true) → ((j : ℕ) → r ≤ j → j < b → q j ≡ false) → a + count q (places a b) ≡ r
  counted a r b l m h k =
      counted_run (b - a) a r (record { low = l; high = omega arith; true_before = h; false_behind = λ j n o. k j n (omega arith) })

  -- without places nothing is counted
  pub count_empty : (a b : ℕ) → b ≤ a → a + count q (places a b) ≡ a
  count_empty a b l = let z : b - a ≡ 0 = omega arith in rw z (omega arith)

  -- a test that stays false once it is false turns at some place
  turn : (n a b : ℕ) → a + n ≡ b → ((i j : ℕ) → a ≤ i → i ≤ j → j < b → q i ≡ false → q j ≡ false) → (r : ℕ) × Turns a r b
  turn zero a b z h = (a, record { low = omega arith; high = omega arith; true_before = λ j l m. absurd (omega arith); false_behind = λ j l m. absurd (omega arith) })
  turn (suc n) a b z h =
      let t = turn n (a + 1) b (omega arith) (λ i j l m k. h i j (omega arith) m k) in
      elim (cases_Bool (q a)) [
        | inl e ↦ (
          t.0,
          record {
            low = omega (arith, t.1.low);
            high = t.1.high;
            true_before = λ j l m. elim (cases_lt a j) [ inl k ↦ t.1.true_before j (omega arith) m | inr k ↦ let y : j ≡ a = omega arith in rw y e ];
            false_behind = t.1.false_behind;
          },
        )
        | inr e ↦ (a, record { low = omega arith; high = omega arith; true_before = λ j l m. absurd (omega arith); false_behind = λ j l m. h a j (omega arith) l m e })
      ]

  -- and the count says where
  turned : (a b : ℕ) → a ≤ b → ((i j : ℕ) → a ≤ i → i ≤ j → j < b → q i ≡ false → q j ≡ false) → Turns a (a + count q (places a b)) b
  turned a b l h =
      let t = turn (b - a) a b (omega arith) h in
      rw (counted a t.0 b t.1.low t.1.high t.1.true_before t.1.false_behind) t.1

-- a duration other than 0
lasts : (d : ℕ) → eqb (suc d) 0 ≡ false
lasts d = grind arith

together : Together
together es n After zero i w l m j = ((λ h. (h, tt)), λ h. h.0)
together es n After (suc d) i w l m j =
    let q : ℕ → Bool = λ j. near (suc d) (time_at es i) (time_at es j) in
    let t = turned q (i + 1) w.1 (omega arith) (λ k j a b c e. le-ltb _ _ (omega (arith, never_falls es n k j b (omega arith), ltb-false _ _ e))) in
    rw (lasts d) (
      (λ h. ((h.0, omega (arith, t.high)), ltb-true _ _ (t.true_before j h.0 h.1))),
      λ h. (
        h.0.0,
        elim (cases_lt j (i + 1 + count q (places (i + 1) w.1))) [
          | inl k ↦ k
          | inr k ↦ absurd (both_ways _ (t.false_behind j k h.0.1) (lt-ltb _ _ h.1))
        ],
      ),
    )
together es n Before zero i w l m j = ((λ h. (h, tt)), λ h. h.0)
together es n Before (suc d) i w l m j =
    let q : ℕ → Bool = λ j. not (near (suc d) (time_at es j) (time_at es i)) in
    let t = turned q w.0 i l.0 (λ k j a b c e. not_from_true _ (lt-ltb _ _ (omega (arith, never_falls es n k j b (omega arith), ltb-true _ _ (not-false _ e))))) in
    rw (lasts d) (
      (λ h. ((omega (arith, t.low), h.1), ltb-true _ _ (not-false _ (t.false_behind j h.0 h.1)))),
      λ h. (
        elim (cases_lt j (w.0 + count q (places w.0 i))) [
          | inl k ↦ absurd (both_ways _ (not_from_true _ (lt-ltb _ _ h.1)) (t.true_before j h.0.0 k))
          | inr k ↦ k
        ],
        h.0.1,
      ),
    )
together es n Given d i w l m j = ((λ h. (h, tt)), λ h. h.0)

pub contiguous : Contiguous
contiguous = record { together = together }
