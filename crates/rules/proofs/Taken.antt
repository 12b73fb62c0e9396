-- Rows are taken exactly if they write rules.
use Rattle.std.proofs.Common.{◌≡◌, ℕ, zero, suc, ◌+◌, true, List, [], ◌∷◌, ◌++◌, length, Some, None, Option, sym, refl, ap, ◌∙◌, append_assoc, arith}
use Rattle.std.proofs.lemmas.List.{length-append}
use Rattle.std.proofs.lemmas.Bool.{and_from, and_parts}
use Rattle.rules.specs.declared.known.Sort.TheVariants as sort
use Rattle.rules.specs.declared.row.Row.{Row}
use Rattle.rules.specs.declared.row.Row.TheVariants.{Not, Connect, Occurrence, Absence, Scope, Quantify, True, NotTest, Join, Compare, Constant, Time, Value, Number, Reckon}
use Rattle.rules.specs.Trees.{Term, constant, time_of, value_of, number_of, reckon, Test, always, not_t, join, compare, Property, not_p, connect, occurrence, absence, scope, quantify, term_rows, test_rows, rows}
use Rattle.rules.specs.Wanted.{Sorts, Wanted, property, test, term, followed, first_bad, ◌⊕◌}
use Rattle.rules.specs.Scoped.{scoped, scoped_test, scoped_term, all_scoped}
use Rattle.rules.specs.Forest.{rules_of, written}
use Rattle.rules.specs.Layout.{rules_wanted}
use Rattle.rules.specs.Reading.{Fits}
use Rattle.rules.proofs.Forests.{reads_rules}
use Rattle.rules.proofs.Grown.{Grown, grown}
use Rattle.rules.proofs.Options.{when_true}

-- rows that write so many rules, each well scoped
pub record Writes (all : List Row) (rules : ℕ) : Type 0 where
  pub many : length (rules_of all) ≡ rules
  pub spelt : written (rules_of all) ≡ all
  pub scoped : all_scoped (rules_of all) ≡ true

-- rows without a bad one write their rules; rules that are well scoped are taken as they are written, and read back
pub record Taken : Type 0 where
  pub writes : (all : List Row) (rules : ℕ) → first_bad 0 all (rules_wanted rules) ≡ None → Writes all rules
  pub taken : (ps : List Property) → all_scoped ps ≡ true → first_bad 0 (written ps) (rules_wanted (length ps)) ≡ None
  pub back : (ps : List Property) → rules_of (written ps) ≡ ps

-- Rules that are well scoped are taken.

-- what a part's rows leave to be read
abbrev Passes : Wanted → List Row → Type 0
Passes w xs = (at : ℕ) (rs : List Row) (ws : List Wanted) → first_bad at (xs ++ rs) (w ∷ ws) ≡ first_bad (at + length xs) rs ws

-- a row with its parts, by what it wants
after : (w : Wanted) (r : Row) (more : List Wanted) → followed w r ≡ Some more → (at : ℕ) (rs : List Row) (ws : List Wanted) →
    first_bad at (r ∷ rs) (w ∷ ws) ≡ first_bad (at + 1) rs (more ++ ws)
after w r more e at rs ws = ap (λ o. elim o [ None ↦ Some at | Some m ↦ first_bad (at + 1) rs (m ++ ws) ]) e

passes_leaf : (w : Wanted) (r : Row) → followed w r ≡ Some [] → Passes w (r ∷ [])
passes_leaf w r e at rs ws = after w r [] e at rs ws

passes_one : (w a : Wanted) (r : Row) (xs : List Row) → followed w r ≡ Some (a ∷ []) → Passes a xs → Passes w (r ∷ xs)
passes_one w a r xs e k at rs ws =
    let n : at + 1 + length xs ≡ at + suc (length xs) = omega arith in
    after w r _ e at (xs ++ rs) ws ∙ (k (at + 1) rs ws ∙ ap (λ m. first_bad m rs ws) n)

passes_two : (w a b : Wanted) (r : Row) (xs ys : List Row) → followed w r ≡ Some (a ∷ b ∷ []) → Passes a xs → Passes b ys → Passes w (r ∷ (xs ++ ys))
passes_two w a b r xs ys e k l at rs ws =
    let n : at + 1 + length xs + length ys ≡ at + suc (length (xs ++ ys)) = simp length-append (omega arith) in
    after w r _ e at ((xs ++ ys) ++ rs) ws
    ∙ (ap (λ zs. first_bad (at + 1) zs (a ∷ b ∷ ws)) (append_assoc xs ys rs)
    ∙ (k (at + 1) (ys ++ rs) (b ∷ ws) ∙ (l (at + 1 + length xs) rs ws ∙ ap (λ m. first_bad m rs ws) n)))

passes_term : (η : Sorts) (t : Term) → scoped_term η t ≡ true → Passes (term η) (term_rows t)
passes_term η (constant k) h = passes_leaf (term η) (Constant k) refl
passes_term η (time_of a) h = passes_leaf (term η) (Time a) (when_true _ [] h)
passes_term η (value_of a b) h = passes_leaf (term η) (Value a b) (when_true _ [] h)
passes_term η (number_of a) h = passes_leaf (term η) (Number a) (when_true _ [] h)
passes_term η (reckon o t u) h =
    let p = and_parts _ _ h in
    passes_two (term η) (term η) (term η) (Reckon o) (term_rows t) (term_rows u) refl (passes_term η t p.0) (passes_term η u p.1)

passes_test : (η : Sorts) (t : Test) → scoped_test η t ≡ true → Passes (test η) (test_rows t)
passes_test η always h = passes_leaf (test η) True refl
passes_test η (not_t t) h = passes_one (test η) (test η) NotTest (test_rows t) refl (passes_test η t h)
passes_test η (join j t u) h =
    let p = and_parts _ _ h in
    passes_two (test η) (test η) (test η) (Join j) (test_rows t) (test_rows u) refl (passes_test η t p.0) (passes_test η u p.1)
passes_test η (compare s t u) h =
    let p = and_parts _ _ h in
    passes_two (test η) (term η) (term η) (Compare s) (term_rows t) (term_rows u) refl (passes_term η t p.0) (passes_term η u p.1)

passes_property : (η : Sorts) (p : Property) → scoped η p ≡ true → Passes (property η) (rows p)
passes_property η (not_p p) h = passes_one (property η) (property η) Not (rows p) refl (passes_property η p h)
passes_property η (connect c p q) h =
    let k = and_parts _ _ h in
    passes_two (property η) (property η) (property η) (Connect c) (rows p) (rows q) refl (passes_property η p k.0) (passes_property η q k.1)
passes_property η (occurrence a n t) h =
    let k = and_parts _ _ h in
    passes_one (property η) (test (η ⊕ sort.Event)) (Occurrence a n) (test_rows t) (when_true _ _ k.0) (passes_test (η ⊕ sort.Event) t k.1)
passes_property η (absence a t) h =
    let k = and_parts _ _ h in
    passes_one (property η) (test (η ⊕ sort.Event)) (Absence a) (test_rows t) (when_true _ _ k.0) (passes_test (η ⊕ sort.Event) t k.1)
passes_property η (scope s o a d t p) h =
    let k = and_parts _ _ h in
    let l = and_parts _ _ k.1 in
    passes_two (property η) (test (η ⊕ sort.Event)) (property (η ⊕ sort.Event)) (Scope s o a d) (test_rows t) (rows p) (when_true _ _ k.0) (passes_test (η ⊕ sort.Event) t l.0) (passes_property (η ⊕ sort.Event) p l.1)
passes_property η (quantify q a b p) h =
    let k = and_parts _ _ h in
    passes_one (property η) (property (η ⊕ sort.Number)) (Quantify q a b) (rows p) (when_true _ _ k.0) (passes_property (η ⊕ sort.Number) p k.1)

passes_rules : (ps : List Property) (at : ℕ) → all_scoped ps ≡ true → first_bad at (written ps) (rules_wanted (length ps)) ≡ None
passes_rules [] at h = refl
passes_rules (p ∷ ps) at h =
    let k = and_parts _ _ h in
    passes_property [] p k.0 at (written ps) (rules_wanted (length ps)) ∙ passes_rules ps (at + length (rows p)) k.1

-- Rows without a bad one write what is wanted.

-- rows cut into the parts that are wanted
abbrev Cut : List Wanted → List Row → Type 0
Cut [] rs = rs ≡ []
Cut (w ∷ ws) rs = (xs : List Row) × (ys : List Row) × Fits w xs × Cut ws ys × (rs ≡ xs ++ ys)

joined : (r : Row) (xs ys zs rs vs : List Row) → rs ≡ xs ++ vs → vs ≡ ys ++ zs → ◌≡◌ {A = List Row} (r ∷ rs) ((r ∷ (xs ++ ys)) ++ zs)
joined r xs ys zs rs vs e f = ap (λ us. r ∷ us) (e ∙ (ap (λ us. xs ++ us) f ∙ sym (append_assoc xs ys zs)))

grow : (w : Wanted) (ws : List Wanted) (r : Row) (rs : List Row) (more : List Wanted) → Grown w r (Some more) → Cut (more ++ ws) rs → Cut (w ∷ ws) (r ∷ rs)
grow w ws r rs [] g c = (r ∷ [], rs, g, c, refl)
grow w ws r rs (a ∷ []) g c = (r ∷ c.0, c.1, g c.0 c.2, c.3, ap (λ us. r ∷ us) c.4)
grow w ws r rs (a ∷ b ∷ []) g c =
    let d = c.3 in
    (r ∷ (c.0 ++ d.0), d.1, g c.0 d.0 c.2 d.2, d.3, joined r c.0 d.0 d.1 rs c.1 c.4 d.4)
grow w ws r rs (a ∷ b ∷ v ∷ vs) g c = absurd g

cut_row : (at : ℕ) (r : Row) (rs : List Row) (w : Wanted) (ws : List Wanted) → ((vs : List Wanted) → first_bad (at + 1) rs vs ≡ None → Cut vs rs) →
    (o : Option (List Wanted)) → o ≡ followed w r → ◌≡◌ {A = Option ℕ} (elim o [ None ↦ Some at | Some more ↦ first_bad (at + 1) rs (more ++ ws) ]) None → Cut (w ∷ ws) (r ∷ rs)
cut_row at r rs w ws later None q e = absurd (cc)
cut_row at r rs w ws later (Some more) q e = grow w ws r rs more (grown w r (Some more) q) (later (more ++ ws) e)

cut : (at : ℕ) (rs : List Row) (ws : List Wanted) → first_bad at rs ws ≡ None → Cut ws rs
cut at [] [] e = refl
cut at [] (w ∷ ws) e = absurd (cc)
cut at (r ∷ rs) [] e = absurd (cc)
cut at (r ∷ rs) (w ∷ ws) e = cut_row at r rs w ws (λ vs. cut (at + 1) rs vs) (followed w r) refl e

rules_cut : (n : ℕ) (rs : List Row) → Cut (rules_wanted n) rs → (ps : List Property) × (length ps ≡ n) × (written ps ≡ rs) × (all_scoped ps ≡ true)
rules_cut zero rs c = ([], refl, sym c, refl)
rules_cut (suc n) rs c =
    let f = c.2 in
    let k = rules_cut n c.1 c.3 in (
      f.0 ∷ k.0,
      ap suc k.1,
      ap (λ us. rows f.0 ++ us) k.2 ∙ (ap (λ us. us ++ c.1) (sym f.2) ∙ sym c.4),
      and_from _ _ f.1 k.3,
    )

pub writes_from : (all : List Row) (n : ℕ) (ps : List Property) → length ps ≡ n → written ps ≡ all → all_scoped ps ≡ true → Writes all n
writes_from all n ps many spelt good =
    let same : rules_of all ≡ ps = ap rules_of (sym spelt) ∙ reads_rules ps in
    record { many = ap length same ∙ many; spelt = ap written same ∙ spelt; scoped = ap all_scoped same ∙ good }

pub taken_stands : Taken
taken_stands = record {
  writes = λ all n e. let k = rules_cut n all (cut 0 all (rules_wanted n) e) in writes_from all n k.0 k.1 k.2 k.3;
  taken = λ ps h. passes_rules ps 0 h;
  back = reads_rules;
}
