-- Rows and rules counted down.
use Rattle.std.proofs.Common.{◌≡◌, ℕ, suc, ◌+◌, ◌-◌, ◌<◌, ◌≤◌, List, [], ◌∷◌, length, drop, Some, None, Option, Result, sym, ap, ◌∙◌, arith}
use Rattle.std.proofs.lemmas.List.{drop_more}
use Rattle.rules.specs.declared.row.Row.{Row}
use Rattle.rules.specs.declared.sheet.InspectRefusal.{InspectRefusal}
use Rattle.rules.specs.Decoded.{decoded}
use Rattle.rules.specs.Wanted.{Wanted, property, first_bad}
use Rattle.rules.specs.Reading.{ReadAt, resumed}
use Rattle.rules.specs.Layout.{raw_at, rows_from, rules_wanted}

module _ (bs : List ℕ) (n i m : ℕ) (h : i < m) where
  one_more : m - i ≡ suc (m - (i + 1))
  one_more = omega arith

  rest : Option Row → List Row
  rest o = elim o [ None ↦ [] | Some r ↦ r ∷ rows_from bs n (i + 1) (m - (i + 1)) ]

  opened : (o : Option Row) → o ≡ decoded (raw_at bs n i) → rows_from bs n i (m - i) ≡ rest o
  unfolding rest
  opened o e = ap (rows_from bs n i) one_more ∙ ap rest (sym e)

  pub rows_more : (r : Row) → Some r ≡ decoded (raw_at bs n i) → rows_from bs n i (m - i) ≡ r ∷ rows_from bs n (i + 1) (m - (i + 1))
  unfolding rest
  rows_more r e = opened (Some r) e

  pub rows_stop : None ≡ decoded (raw_at bs n i) → rows_from bs n i (m - i) ≡ []
  unfolding rest
  rows_stop e = opened None e

  pub rules_more : rules_wanted (m - i) ≡ property [] ∷ rules_wanted (m - (i + 1))
  rules_more = ap rules_wanted one_more

module _ (rows : List Row) (at i m : ℕ) where
  -- what is found where the rules from the i-th on are wanted
  abbrev Found : Option ℕ → Type 0
  Found o = first_bad at (drop at rows) (rules_wanted (m - i)) ≡ o

  pub rule_read : (w : Wanted) (r : Result ℕ InspectRefusal) → w ≡ property [] → i < m → ReadAt rows at w r → Found (resumed rows r (rules_wanted (m - (i + 1))))
  rule_read w r e h k = ap (first_bad at (drop at rows)) (rules_more [] 0 i m h ∙ ap (λ v. v ∷ rules_wanted (m - (i + 1))) (sym e)) ∙ k.same _

  pub rows_left : m ≤ i → (d : Row) → at < length rows → Found (Some at)
  rows_left h d k =
      let none : m - i ≡ 0 = omega arith in
      ap (λ n. first_bad at (drop at rows) (rules_wanted n)) none ∙ ap (λ rs. first_bad at rs []) (drop_more rows at d k)
