-- The reach of a rule is how many of its rows begin a property.
use Rattle.std.proofs.Common.{◌≡◌, ◌+◌, List, [], ◌∷◌, ◌++◌, refl, arith}
use Rattle.rules.specs.declared.row.Row.{Row}
use Rattle.rules.specs.Trees.{Term, constant, time_of, value_of, number_of, reckon, Test, always, not_t, join, compare, Property, not_p, connect, occurrence, absence, scope, quantify, term_rows, test_rows, rows, reach_of}
use Rattle.rules.specs.Reach.{property_rows}

both : (xs ys : List Row) → property_rows (xs ++ ys) ≡ property_rows xs + property_rows ys
both [] ys = omega arith
both (x ∷ xs) ys = let later = both xs ys in omega arith

of_term : (t : Term) → property_rows (term_rows t) ≡ 0
of_term (constant k) = refl
of_term (time_of a) = refl
of_term (value_of a b) = refl
of_term (number_of a) = refl
of_term (reckon o t u) = let first = of_term t in let second = of_term u in let h = both (term_rows t) (term_rows u) in omega arith

of_test : (t : Test) → property_rows (test_rows t) ≡ 0
of_test always = refl
of_test (not_t t) = let inner = of_test t in omega arith
of_test (join j t u) = let first = of_test t in let second = of_test u in let h = both (test_rows t) (test_rows u) in omega arith
of_test (compare s t u) = let first = of_term t in let second = of_term u in let h = both (term_rows t) (term_rows u) in omega arith

pub reached : (p : Property) → property_rows (rows p) ≡ reach_of p
reached (not_p p) = let inner = reached p in omega arith
reached (connect c p q) = let first = reached p in let second = reached q in let h = both (rows p) (rows q) in omega arith
reached (occurrence a n t) = let inner = of_test t in omega arith
reached (absence a t) = let inner = of_test t in omega arith
reached (scope s o a d t p) = let first = of_test t in let second = reached p in let h = both (test_rows t) (rows p) in omega arith
reached (quantify q a b p) = let inner = reached p in omega arith
