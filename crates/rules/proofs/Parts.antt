-- Each row of rules begins the part that it says, and the tree of a part is read off its rows.
use Rattle.std.proofs.Common.{◌≡◌, ℕ, zero, suc, ◌+◌, ◌-◌, ◌<◌, true, ltb, List, [], ◌∷◌, ◌++◌, length, get_or, sym, refl, ap, ◌∙◌, subst, inl, inr, append-nil, arith}
use Rattle.std.proofs.lemmas.List.{length-append}
use Rattle.std.proofs.lemmas.Bool.{and_from, and_parts, cases_lt, lt-ltb, ltb-true}
use Rattle.rules.specs.declared.row.Row.{Row}
use Rattle.rules.specs.declared.row.Row.TheVariants.{Not, Connect, Occurrence, Absence, Scope, Quantify, True, NotTest, Join, Compare, Constant, Time, Value, Number, Reckon}
use Rattle.rules.specs.declared.read.Part.{Part}
use Rattle.rules.specs.declared.read.Part.TheVariants as part
use Rattle.rules.specs.Trees.{Term, constant, time_of, value_of, number_of, reckon, Test, always, not_t, join, compare, Property, not_p, connect, occurrence, absence, scope, quantify, term_rows, test_rows, rows, Begins}
use Rattle.rules.specs.Forest.{forest, property1, test1, property_at, test_at, rules_of, written}
use Rattle.rules.specs.Wanted.{part_of, same_part}
use Rattle.rules.specs.Written.{begins_test}
use Rattle.rules.proofs.Forests.{reads_property, reads_test}
use Rattle.rules.proofs.Fronts.{front_row, front_rest, front_left, front_right}
use Rattle.rules.proofs.Heads.{test_within}
use Rattle.rules.proofs.Taken.{Writes}

pub property_is : (all : List Row) (at : ℕ) (p : Property) → Begins all at (rows p) → property_at all at ≡ p
property_is all at p b = ap (λ l. property1 (forest l)) b.split ∙ ap property1 (reads_property p b.rest)

pub test_is : (all : List Row) (at : ℕ) (t : Test) → Begins all at (test_rows t) → test_at all at ≡ t
test_is all at t b = ap (λ l. test1 (forest l)) b.split ∙ ap test1 (reads_test t b.rest)

pub test_begins : (all : List Row) (at : ℕ) (t : Test) → Begins all at (test_rows t) → Begins all at (test_rows (test_at all at))
test_begins all at t b = subst (λ u. Begins all at (test_rows u)) (sym (test_is all at t b)) b

-- what holds of a row, of m rows behind it and of n rows behind those
each : (P : ℕ → Type 0) (at m n : ℕ) → P at → ((k : ℕ) → k < m → P (at + 1 + k)) → ((k : ℕ) → k < n → P (at + 1 + m + k)) → (k : ℕ) → k < suc (m + n) → P (at + k)
each P at m n here left right zero h = let e : at ≡ at + 0 = omega arith in subst P e here
each P at m n here left right (suc k) h =
    elim (cases_lt k m) [
      | inl l ↦ let e : at + 1 + k ≡ at + suc k = omega arith in subst P e (left k l)
      | inr l ↦ let e : at + 1 + m + (k - m) ≡ at + suc k = omega arith in subst P e (right (k - m) (omega arith))
    ]

nothing : (P : ℕ → Type 0) (at k : ℕ) → k < 0 → P (at + k)
nothing P at k h = absurd (omega arith)

module _ (all : List Row) where
  -- a part that begins at a row
  abbrev BeginsAt : Part → ℕ → Type 0
  BeginsAt part.Property at = (p : Property) × Begins all at (rows p)
  BeginsAt part.Test at = (t : Test) × Begins all at (test_rows t)
  BeginsAt part.Term at = (t : Term) × Begins all at (term_rows t)

  abbrev row_at : ℕ → Row
  row_at at = get_or all at Not

  -- the part that a row says begins there
  abbrev Said : ℕ → Type 0
  Said at = BeginsAt (part_of (row_at at)) at

  said : (at : ℕ) (r : Row) (rs : List Row) → Begins all at (r ∷ rs) → BeginsAt (part_of r) at → Said at
  said at r rs b here = subst (λ s. BeginsAt (part_of s) at) (sym (front_row all at r rs b Not)) here

  each_leaf : (at : ℕ) (r : Row) → Begins all at (r ∷ []) → BeginsAt (part_of r) at → (k : ℕ) → k < 1 → Said (at + k)
  each_leaf at r b here = each Said at 0 0 (said at r [] b here) (nothing Said (at + 1)) (nothing Said (at + 1 + 0))

  each_one : (at : ℕ) (r : Row) (xs : List Row) → Begins all at (r ∷ xs) → BeginsAt (part_of r) at →
      (Begins all (at + 1) xs → (k : ℕ) → k < length xs → Said (at + 1 + k)) → (k : ℕ) → k < suc (length xs) → Said (at + k)
  each_one at r xs b here inner k h =
      each Said at (length xs) 0 (said at r xs b here) (inner (front_rest all at _ _ b Not)) (nothing Said (at + 1 + length xs)) k (omega arith)

  each_two : (at : ℕ) (r : Row) (xs ys : List Row) → Begins all at (r ∷ (xs ++ ys)) → BeginsAt (part_of r) at →
      (Begins all (at + 1) xs → (k : ℕ) → k < length xs → Said (at + 1 + k)) → (Begins all (at + 1 + length xs) ys → (k : ℕ) → k < length ys → Said (at + 1 + length xs + k)) →
      (k : ℕ) → k < suc (length (xs ++ ys)) → Said (at + k)
  each_two at r xs ys b here left right k h =
      let rest = front_rest all at _ _ b Not in
      let long = length-append xs ys in
      each Said at (length xs) (length ys) (said at r (xs ++ ys) b here) (left (front_left all (at + 1) xs ys rest)) (right (front_right all (at + 1) xs ys rest)) k (omega arith)

  of_term : (t : Term) (at : ℕ) → Begins all at (term_rows t) → (k : ℕ) → k < length (term_rows t) → Said (at + k)
  of_term (constant n) at b = each_leaf at (Constant n) b (constant n, b)
  of_term (time_of a) at b = each_leaf at (Time a) b (time_of a, b)
  of_term (value_of a c) at b = each_leaf at (Value a c) b (value_of a c, b)
  of_term (number_of a) at b = each_leaf at (Number a) b (number_of a, b)
  of_term (reckon o t u) at b = each_two at (Reckon o) (term_rows t) (term_rows u) b (reckon o t u, b) (of_term t (at + 1)) (of_term u (at + 1 + length (term_rows t)))

  of_test : (t : Test) (at : ℕ) → Begins all at (test_rows t) → (k : ℕ) → k < length (test_rows t) → Said (at + k)
  of_test always at b = each_leaf at True b (always, b)
  of_test (not_t t) at b = each_one at NotTest (test_rows t) b (not_t t, b) (of_test t (at + 1))
  of_test (join j t u) at b = each_two at (Join j) (test_rows t) (test_rows u) b (join j t u, b) (of_test t (at + 1)) (of_test u (at + 1 + length (test_rows t)))
  of_test (compare s t u) at b = each_two at (Compare s) (term_rows t) (term_rows u) b (compare s t u, b) (of_term t (at + 1)) (of_term u (at + 1 + length (term_rows t)))

  of_property : (p : Property) (at : ℕ) → Begins all at (rows p) → (k : ℕ) → k < length (rows p) → Said (at + k)
  of_property (not_p p) at b = each_one at Not (rows p) b (not_p p, b) (of_property p (at + 1))
  of_property (connect c p q) at b = each_two at (Connect c) (rows p) (rows q) b (connect c p q, b) (of_property p (at + 1)) (of_property q (at + 1 + length (rows p)))
  of_property (occurrence a n t) at b = each_one at (Occurrence a n) (test_rows t) b (occurrence a n t, b) (of_test t (at + 1))
  of_property (absence a t) at b = each_one at (Absence a) (test_rows t) b (absence a t, b) (of_test t (at + 1))
  of_property (scope s o a d t p) at b =
      each_two at (Scope s o a d) (test_rows t) (rows p) b (scope s o a d t p, b) (of_test t (at + 1)) (of_property p (at + 1 + length (test_rows t)))
  of_property (quantify q a c p) at b = each_one at (Quantify q a c) (rows p) b (quantify q a c p, b) (of_property p (at + 1))

  of_rules : (ps : List Property) (at : ℕ) → Begins all at (written ps) → (k : ℕ) → k < length (written ps) → Said (at + k)
  of_rules [] at b k h = absurd (omega arith)
  of_rules (p ∷ ps) at b k h =
      let long = length-append (rows p) (written ps) in
      elim (cases_lt k (length (rows p))) [
        | inl l ↦ of_property p at (front_left all at (rows p) (written ps) b) k l
        | inr l ↦
            let e : at + length (rows p) + (k - length (rows p)) ≡ at + k = omega arith in
            subst Said e (of_rules ps (at + length (rows p)) (front_right all at (rows p) (written ps) b) (k - length (rows p)) (omega arith))
      ]

  is_test : (p : Part) → same_part part.Test p ≡ true → p ≡ part.Test
  is_test part.Property h = absurd (cc)
  is_test part.Test h = refl
  is_test part.Term h = absurd (cc)

  -- where a test begins, as a row says, its rows stand there
  pub test_stands : (rules : ℕ) → Writes all rules → (at : ℕ) → begins_test all at ≡ true → Begins all at (test_rows (test_at all at))
  test_stands n w at h =
      let k = and_parts (ltb at (length all)) (same_part part.Test (part_of (row_at at))) h in
      let ps = rules_of all in
      let whole : Begins all 0 (written ps) = record { rest = []; split = sym w.spelt ∙ sym (append-nil (written ps)) } in
      let long = ap length w.spelt in
      let e : 0 + at ≡ at = omega arith in
      let within : at < length all = ltb-true _ _ k.0 in
      let x = subst Said e (of_rules ps 0 whole at (omega arith)) in
      let y = subst (λ p. BeginsAt p at) (is_test _ k.1) x in
      test_begins all at y.0 y.1

  -- and the other way round
  pub test_begun : (t : Test) (at : ℕ) → Begins all at (test_rows t) → begins_test all at ≡ true
  test_begun t at b = and_from _ _ (lt-ltb _ _ (test_within all at t b)) (part_is t b)
    where
      by : (r : Row) (rs : List Row) → Begins all at (r ∷ rs) → part_of r ≡ part.Test → same_part part.Test (part_of (row_at at)) ≡ true
      by r rs c e = ap (same_part part.Test) (ap part_of (front_row all at r rs c Not) ∙ e)

      part_is : (u : Test) → Begins all at (test_rows u) → same_part part.Test (part_of (row_at at)) ≡ true
      part_is always c = by True _ c refl
      part_is (not_t u) c = by NotTest _ c refl
      part_is (join j u v) c = by (Join j) _ c refl
      part_is (compare s u v) c = by (Compare s) _ c refl
