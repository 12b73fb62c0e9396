-- The prefix writing of a tree reads back as that tree.
use Rattle.std.proofs.Common.{◌≡◌, List, [], ◌∷◌, ◌++◌, refl, ap, ◌∙◌, append_assoc}
use Rattle.rules.specs.declared.row.Row.{Row}
use Rattle.rules.specs.declared.row.Row.TheVariants.{Not, Connect, Occurrence, Absence, Scope, Quantify, NotTest, Join, Compare, Reckon}
use Rattle.rules.specs.Trees.{Term, constant, time_of, value_of, number_of, reckon, Test, always, not_t, join, compare, Property, not_p, connect, occurrence, absence, scope, quantify, term_rows, test_rows, rows}
use Rattle.rules.specs.Forest.{Forest, plant_term, plant_test, plant, built, forest, rules_of, written}

-- two parts, one behind the other
both : (xs ys rs : List Row) (f g : Forest → Forest) → forest (xs ++ (ys ++ rs)) ≡ f (forest (ys ++ rs)) → forest (ys ++ rs) ≡ g (forest rs) →
    forest ((xs ++ ys) ++ rs) ≡ f (g (forest rs))
both xs ys rs f g first second = ap forest (append_assoc xs ys rs) ∙ (first ∙ ap f second)

pub reads_term : (t : Term) (rs : List Row) → forest (term_rows t ++ rs) ≡ plant_term t (forest rs)
reads_term (constant k) rs = refl
reads_term (time_of a) rs = refl
reads_term (value_of a b) rs = refl
reads_term (number_of a) rs = refl
reads_term (reckon o t u) rs =
    ap (built (Reckon o)) (both (term_rows t) (term_rows u) rs (plant_term t) (plant_term u) (reads_term t (term_rows u ++ rs)) (reads_term u rs))

pub reads_test : (t : Test) (rs : List Row) → forest (test_rows t ++ rs) ≡ plant_test t (forest rs)
reads_test always rs = refl
reads_test (not_t t) rs = ap (built NotTest) (reads_test t rs)
reads_test (join j t u) rs =
    ap (built (Join j)) (both (test_rows t) (test_rows u) rs (plant_test t) (plant_test u) (reads_test t (test_rows u ++ rs)) (reads_test u rs))
reads_test (compare s t u) rs =
    ap (built (Compare s)) (both (term_rows t) (term_rows u) rs (plant_term t) (plant_term u) (reads_term t (term_rows u ++ rs)) (reads_term u rs))

pub reads_property : (p : Property) (rs : List Row) → forest (rows p ++ rs) ≡ plant p (forest rs)
reads_property (not_p p) rs = ap (built Not) (reads_property p rs)
reads_property (connect c p q) rs =
    ap (built (Connect c)) (both (rows p) (rows q) rs (plant p) (plant q) (reads_property p (rows q ++ rs)) (reads_property q rs))
reads_property (occurrence a n t) rs = ap (built (Occurrence a n)) (reads_test t rs)
reads_property (absence a t) rs = ap (built (Absence a)) (reads_test t rs)
reads_property (scope s o a d t p) rs =
    ap (built (Scope s o a d)) (both (test_rows t) (rows p) rs (plant_test t) (plant p) (reads_test t (rows p ++ rs)) (reads_property p rs))
reads_property (quantify q a b p) rs = ap (built (Quantify q a b)) (reads_property p rs)

-- rules read back from their rows
pub reads_rules : (ps : List Property) → rules_of (written ps) ≡ ps
reads_rules [] = refl
reads_rules (p ∷ ps) = ap (λ f. f.properties) (reads_property p (written ps)) ∙ ap (λ qs. p ∷ qs) (reads_rules ps)
