-- The rows behind a part.
use Rattle.std.proofs.Common.{◌≡◌, ℕ, zero, suc, ◌+◌, ◌-◌, ◌<◌, ◌≤◌, true, false, ◌≢◌, List, [], ◌∷◌, ◌++◌, length, get_or, drop, set, is_some, Some, None, Option, sym, refl, ap, ◌∙◌, subst, inl, inr, ⊎_elim, append_assoc, arith}
use Rattle.std.proofs.lemmas.List.{drop_more, drop_all, length-append, length-drop, get_or-set_same, get_or-set_other}
use Rattle.std.proofs.lemmas.Bool.{cases_lt}
use Rattle.rules.specs.declared.row.Row.{Row}
use Rattle.rules.specs.declared.row.Row.TheVariants.{Not, Connect, Occurrence, Absence, Scope, Quantify, True, NotTest, Join, Compare, Constant, Time, Value, Number, Reckon}
use Rattle.rules.specs.Trees.{Term, constant, time_of, value_of, number_of, reckon, Test, always, not_t, join, compare, Property, not_p, connect, occurrence, absence, scope, quantify, term_rows, test_rows, rows, Begins}
use Rattle.judging.specs.Extents.{arity, beyond, end_at, EndsAt, Ends}

-- these rows are one part
abbrev pub Part : List Row → Type 0
Part xs = (n : ℕ) (rs : List Row) → beyond (suc n) (xs ++ rs) ≡ beyond n rs

one : (r : Row) (xs : List Row) → arity r ≡ 1 → Part xs → Part (r ∷ xs)
one r xs e p n rs = let k : arity r + n ≡ suc n = omega arith in ap (λ m. beyond m (xs ++ rs)) k ∙ p n rs

two : (r : Row) (xs ys : List Row) → arity r ≡ 2 → Part xs → Part ys → Part (r ∷ (xs ++ ys))
two r xs ys e p q n rs =
    let k : arity r + n ≡ suc (suc n) = omega arith in
    ap (λ m. beyond m ((xs ++ ys) ++ rs)) k ∙ ap (beyond (suc (suc n))) (append_assoc xs ys rs) ∙ p (suc n) (ys ++ rs) ∙ q n rs

leaf : (r : Row) → arity r ≡ 0 → Part (r ∷ [])
leaf r e n rs = grind arith

pub term_part : (t : Term) → Part (term_rows t)
term_part (constant k) = leaf (Constant k) refl
term_part (time_of a) = leaf (Time a) refl
term_part (value_of a b) = leaf (Value a b) refl
term_part (number_of a) = leaf (Number a) refl
term_part (reckon o t u) = two (Reckon o) (term_rows t) (term_rows u) refl (term_part t) (term_part u)

pub test_part : (t : Test) → Part (test_rows t)
test_part always = leaf True refl
test_part (not_t t) = one NotTest (test_rows t) refl (test_part t)
test_part (join j t u) = two (Join j) (test_rows t) (test_rows u) refl (test_part t) (test_part u)
test_part (compare s t u) = two (Compare s) (term_rows t) (term_rows u) refl (term_part t) (term_part u)

pub property_part : (p : Property) → Part (rows p)
property_part (not_p p) = one Not (rows p) refl (property_part p)
property_part (connect c p q) = two (Connect c) (rows p) (rows q) refl (property_part p) (property_part q)
property_part (occurrence a n t) = one (Occurrence a n) (test_rows t) refl (test_part t)
property_part (absence a t) = one (Absence a) (test_rows t) refl (test_part t)
property_part (scope s o a d t p) = two (Scope s o a d) (test_rows t) (rows p) refl (test_part t) (property_part p)
property_part (quantify q a b p) = one (Quantify q a b) (rows p) refl (property_part p)

module _ (all : List Row) (at : ℕ) (front : List Row) (part : Part front) (begins : Begins all at front) (within : at ≤ length all) where
  pub part_ends : beyond 1 (drop at all) ≡ Some begins.rest
  part_ends = ap (beyond 1) begins.split ∙ part 0 begins.rest

  -- where it ends is behind its rows
  pub part_end : (r : ℕ) → r ≤ length all → beyond 1 (drop at all) ≡ Some (drop r all) → r ≡ at + length front
  part_end r few e =
      let same : begins.rest ≡ drop r all = let a = part_ends in cc in
      let long = simp (length-append, length-drop) at (ap length begins.split) in
      let short = simp length-drop at (ap length same) in
      omega arith

-- a part that is wanted begins before the end
module _ (all : List Row) (i n : ℕ) where
  pub more_rows : 0 < n → is_some (beyond n (drop i all)) ≡ true → i < length all
  more_rows some h = ⊎_elim (λ l. l) (λ l. absurd (out l)) (cases_lt i (length all))
    where
      none : (m : ℕ) → 0 < m → beyond m [] ≡ None
      none zero k = absurd (omega arith)
      none (suc m) k = refl

      out : length all ≤ i → ⊥
      out l = let e = ap (λ rs. is_some (beyond n rs)) (drop_all i all l) ∙ ap is_some (none n some) in let z : true ≡ false = sym h ∙ e in cc

  pub beyond_next : (d : Row) → 0 < n → i < length all → beyond n (drop i all) ≡ beyond (arity (get_or all i d) + (n - 1)) (drop (i + 1) all)
  beyond_next d some l =
      let e : n ≡ suc (n - 1) = omega arith in
      ap (λ m. beyond m (drop i all)) e ∙ ap (beyond (suc (n - 1))) (drop_more all i d l)

pub arity_few : (r : Row) → arity r ≤ 2
arity_few r = grind arith

-- Ends, one by one.

-- behind m + n parts are n parts behind m
then_beyond : (n : ℕ) → Option (List Row) → Option (List Row)
then_beyond n None = None
then_beyond n (Some rs) = beyond n rs

beyond_split : (m n : ℕ) (xs : List Row) → beyond (m + n) xs ≡ then_beyond n (beyond m xs)
unfolding then_beyond
beyond_split zero n xs = grind arith
beyond_split (suc m) n [] = grind arith
beyond_split (suc m) n (r ∷ rs) = grind (arith, beyond_split (arity r + m) n rs)

first_some : (n : ℕ) (o : Option (List Row)) → is_some (then_beyond n o) ≡ true → is_some o ≡ true
unfolding then_beyond
first_some n o h = grind arith

module _ (rs : List Row) where
  -- the parts from row i on have their ends in the list
  abbrev pub EndsFrom : List ℕ → ℕ → Type 0
  EndsFrom ends i = (j : ℕ) → i ≤ j → j < length rs → is_some (beyond 1 (drop j rs)) ≡ true → EndsAt rs j (get_or ends j 0)

  one_end : (ends : List ℕ) (i : ℕ) → EndsFrom ends i → is_some (beyond 1 (drop i rs)) ≡ true → EndsAt rs i (get_or ends i 0)
  one_end ends i k h = k i (omega arith) (more_rows rs i 1 (omega arith) h) h

  -- the end of a part, from those behind it
  pub end_next : (ends : List ℕ) (i : ℕ) (d : Row) → EndsFrom ends (i + 1) → i < length rs → is_some (beyond 1 (drop i rs)) ≡ true → (n : ℕ) → arity (get_or rs i d) ≡ n → EndsAt rs i (end_at n ends i)
  unfolding then_beyond
  end_next ends i d k h s zero e =
      record { rest = beyond_next rs i 1 d (omega arith) h ∙ ap (λ m. beyond (m + 0) (drop (i + 1) rs)) e; forward = omega arith; inside = omega arith }
  end_next ends i d k h s (suc zero) e =
      let opened = beyond_next rs i 1 d (omega arith) h ∙ ap (λ m. beyond (m + 0) (drop (i + 1) rs)) e in
      let x = one_end ends (i + 1) k (sym (ap is_some opened) ∙ s) in
      let f = x.forward in
      record { rest = opened ∙ x.rest; forward = omega arith; inside = x.inside }
  end_next ends i d k h s (suc (suc zero)) e =
      let xs = drop (i + 1) rs in
      let opened = beyond_next rs i 1 d (omega arith) h ∙ ap (λ m. beyond (m + 0) xs) e ∙ beyond_split 1 1 xs in
      let x = one_end ends (i + 1) k (first_some 1 (beyond 1 xs) (sym (ap is_some opened) ∙ s)) in
      let second = opened ∙ ap (then_beyond 1) x.rest in
      let f = x.forward in
      let y = one_end ends (get_or ends (i + 1) 0) (λ j l. k j (omega arith)) (sym (ap is_some second) ∙ s) in
      let g = y.forward in
      record { rest = second ∙ y.rest; forward = omega arith; inside = y.inside }
  end_next ends i d k h s (suc (suc (suc n))) e = let few = arity_few (get_or rs i d) in absurd (omega arith)

  -- one more end is put into the list
  pub ends_more : (ends : List ℕ) (i e : ℕ) → i < length ends → EndsFrom ends (i + 1) → (is_some (beyond 1 (drop i rs)) ≡ true → EndsAt rs i e) → EndsFrom (set ends i e) i
  ends_more ends i e room k here j l m s =
      elim (cases_lt i j) [
        | inl h ↦ let other : j ≢ i = omega arith in subst (EndsAt rs j) (sym (get_or-set_other ends i j e 0 other)) (k j (omega arith) m s)
        | inr h ↦
            let same : j ≡ i = omega arith in
            subst (λ x. EndsAt rs x (get_or (set ends i e) x 0)) (sym same) (subst (EndsAt rs i) (sym (get_or-set_same ends i e 0 room)) (here (subst (λ x. is_some (beyond 1 (drop x rs)) ≡ true) same s)))
      ]

-- where a part ends, by the list
pub part_place : (all : List Row) (ends : List ℕ) (at : ℕ) (front : List Row) → Ends all ends → Part front → Begins all at front → at < length all → get_or ends at 0 ≡ at + length front
part_place all ends at front k part begins h =
    let x = k.at at h (ap is_some (part_ends all at front part begins (omega arith))) in
    part_end all at front part begins (omega arith) (get_or ends at 0) x.inside x.rest
