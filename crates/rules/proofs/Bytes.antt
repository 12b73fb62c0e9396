-- The rows in the bytes of a sheet are those whose heads and numbers stand there.
use Rattle.std.proofs.Common.{◌≡◌, ℕ, zero, suc, ◌+◌, ◌<◌, Bool, true, false, cond, List, [], ◌∷◌, length, get_or, Some, None, Option, sym, refl, ap, ◌∙◌, add-zero, arith}
use Rattle.std.proofs.lemmas.Bool.{and_from, eq-eqb}
use Rattle.rules.specs.declared.raw.RawRow.{RawRow}
use Rattle.rules.specs.declared.row.Row.{Row}
use Rattle.rules.specs.declared.row.Row.TheVariants.{Not}
use Rattle.rules.specs.Trees.{Property}
use Rattle.rules.specs.Decoded.{decoded}
use Rattle.rules.specs.Encoded.{Stands, all_allowed}
use Rattle.rules.specs.Forest.{rules_of, written}
use Rattle.rules.specs.Wanted.{first_bad}
use Rattle.rules.specs.Layout.{sized, rule_count, row_count, raw_at, rows_from, rows_of, rules_wanted, settled, broken}
use Rattle.rules.specs.Exact.{Spells, Exact}
use Rattle.rules.proofs.Coded.{coded_stands}
use Rattle.rules.proofs.Taken.{taken_stands}

decoded_by : (w : RawRow) (r : Row) → Stands w r → decoded w ≡ Some r
decoded_by w r s = ap decoded s.same ∙ coded_stands.there r s.good

module _ (bs : List ℕ) (n : ℕ) where
  -- rows read, from the first one's option
  rest : (i left : ℕ) → Option Row → List Row
  rest i left o = elim o [ None ↦ [] | Some r ↦ r ∷ rows_from bs n (i + 1) left ]

  pub rows_are : (xs : List Row) (i : ℕ) → ((j : ℕ) → j < length xs → Stands (raw_at bs n (i + j)) (get_or xs j Not)) → rows_from bs n i (length xs) ≡ xs
  unfolding rest
  rows_are [] i h = refl
  rows_are (x ∷ xs) i h =
      let first : Stands (raw_at bs n i) x = rw add-zero at (h 0 (omega arith)) in
      ap (rest i (length xs)) (decoded_by (raw_at bs n i) x first)
      ∙ ap (λ rs. x ∷ rs) (rows_are xs (i + 1) (λ j l. let e : i + 1 + j ≡ i + suc j = omega arith in rw e (h (suc j) (omega arith))))

  by_row : (i left : ℕ) → all_allowed (rows_from bs n (i + 1) left) ≡ true → (o : Option Row) → decoded (raw_at bs n i) ≡ o → all_allowed (rest i left o) ≡ true
  unfolding rest
  by_row i left h None e = refl
  by_row i left h (Some r) e = and_from _ _ (coded_stands.back (raw_at bs n i) r e).good h

  pub rows_allowed : (i left : ℕ) → all_allowed (rows_from bs n i left) ≡ true
  unfolding rest
  rows_allowed i zero = refl
  rows_allowed i (suc left) = by_row i left (rows_allowed (i + 1) left) (decoded (raw_at bs n i)) refl

  -- where no row is missing, each stands at its place
  abbrev Standing : (i left : ℕ) → List Row → Type 0
  Standing i left xs = length xs ≡ left → (j : ℕ) → j < left → Stands (raw_at bs n (i + j)) (get_or xs j Not)

  by_head : (i left : ℕ) → Standing (i + 1) left (rows_from bs n (i + 1) left) → (o : Option Row) → decoded (raw_at bs n i) ≡ o → Standing i (suc left) (rest i left o)
  unfolding rest
  by_head i left later None e long j h = absurd (omega arith)
  by_head i left later (Some r) e long zero h = rw add-zero (coded_stands.back (raw_at bs n i) r e)
  by_head i left later (Some r) e long (suc j) h =
      let same : i + suc j ≡ i + 1 + j = omega arith in
      rw same (later (omega arith) j (omega arith))

  pub rows_stand : (i left : ℕ) → Standing i left (rows_from bs n i left)
  unfolding rest
  rows_stand i zero long j h = absurd (omega arith)
  rows_stand i (suc left) long j h = by_head i left (rows_stand (i + 1) left) (decoded (raw_at bs n i)) refl long j h

unbroken : (n : ℕ) (xs : List Row) (b : Bool) (o : Option ℕ) → cond b (settled n xs o) (Some 0) ≡ None → (b ≡ true) × (o ≡ None) × (length xs ≡ n)
unbroken n xs true None e = (refl, refl, grind arith)
unbroken n xs true (Some k) e = absurd (cc)
unbroken n xs false o e = absurd (cc)

module _ (bs : List ℕ) (ps : List Property) (s : Spells bs ps) where
  rows_same : rows_of bs ≡ written ps
  rows_same =
      let N = row_count bs in
      ap (rows_from bs N 0) (sym s.count)
      ∙ rows_are bs N (written ps) 0 (λ j l. let e : 0 + j ≡ j = omega arith in let c = s.count in rw e (s.heads j (omega arith)))

  unbroken_same : broken bs ≡ None
  unbroken_same =
      let good : first_bad 0 (rows_of bs) (rules_wanted (rule_count bs)) ≡ None
      = ap (λ rs. first_bad 0 rs (rules_wanted (rule_count bs))) rows_same ∙ (ap (λ k. first_bad 0 (written ps) (rules_wanted k)) (sym s.rules) ∙ taken_stands.taken ps s.scoped) in
      let full : length (rows_of bs) ≡ row_count bs = ap length rows_same ∙ s.count in
      ap (λ b. cond b (settled (row_count bs) (rows_of bs) (first_bad 0 (rows_of bs) (rules_wanted (rule_count bs)))) (Some 0)) s.sizes
      ∙ (ap (settled (row_count bs) (rows_of bs)) good ∙ ap (λ b. cond b None (Some (length (rows_of bs)))) (eq-eqb _ _ full))

only_rules : (bs : List ℕ) → broken bs ≡ None → Spells bs (rules_of (rows_of bs))
only_rules bs e =
    let k = unbroken (row_count bs) (rows_of bs) (sized bs) (first_bad 0 (rows_of bs) (rules_wanted (rule_count bs))) e in
    let w = taken_stands.writes (rows_of bs) (rule_count bs) k.1 in
    record {
      sizes = k.0;
      rules = w.many;
      count = ap length w.spelt ∙ k.2;
      heads = λ i h.
          let e : 0 + i ≡ i = omega arith in
          rw w.spelt (rw e at (rows_stand bs (row_count bs) 0 (row_count bs) k.2 i h));
      scoped = w.scoped;
    }

pub exact_stands : Exact
exact_stands = record { taken = λ bs ps s. (unbroken_same bs ps s, ap rules_of (rows_same bs ps s) ∙ taken_stands.back ps); only = only_rules }
