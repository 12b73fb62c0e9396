-- The rules that rows write. Rows are read from the last to the first: each takes its parts off what the rows behind it make.
use Rattle.std.specs.Prelude.{ℕ, List, [], ◌∷◌, ◌++◌, drop, pos}
use Rattle.rules.specs.declared.row.Row.{Row}
use Rattle.rules.specs.declared.row.Row.TheVariants.{Not, Connect, Occurrence, Absence, Scope, Quantify, True, NotTest, Join, Compare, Constant, Time, Value, Number, Reckon}
use Rattle.rules.specs.Trees.{Term, constant, time_of, value_of, number_of, reckon, Test, always, not_t, join, compare, Property, not_p, connect, occurrence, absence, scope, quantify, rows}

-- terms, tests and properties that wait for the rows before them, the next first
pub record Forest : Type 0 where
  pub terms : List Term
  pub tests : List Test
  pub properties : List Property

abbrev pub head_or : {A : Type 0} → A → List A → A
head_or d [] = d
head_or d (x ∷ xs) = x

abbrev pub rest : {A : Type 0} → List A → List A
rest [] = []
rest (x ∷ xs) = xs

abbrev pub term1 : Forest → Term
term1 f = head_or (constant (pos 0)) f.terms

abbrev pub term2 : Forest → Term
term2 f = head_or (constant (pos 0)) (rest f.terms)

abbrev pub test1 : Forest → Test
test1 f = head_or always f.tests

abbrev pub test2 : Forest → Test
test2 f = head_or always (rest f.tests)

abbrev pub property1 : Forest → Property
property1 f = head_or (absence 0 always) f.properties

abbrev pub property2 : Forest → Property
property2 f = head_or (absence 0 always) (rest f.properties)

abbrev pub plant_term : Term → Forest → Forest
plant_term t f = record { terms = t ∷ f.terms; tests = f.tests; properties = f.properties }

abbrev pub plant_test : Test → Forest → Forest
plant_test t f = record { terms = f.terms; tests = t ∷ f.tests; properties = f.properties }

abbrev pub plant : Property → Forest → Forest
plant p f = record { terms = f.terms; tests = f.tests; properties = p ∷ f.properties }

abbrev pub less_term : Forest → Forest
less_term f = record { terms = rest f.terms; tests = f.tests; properties = f.properties }

abbrev pub less_test : Forest → Forest
less_test f = record { terms = f.terms; tests = rest f.tests; properties = f.properties }

abbrev pub less : Forest → Forest
less f = record { terms = f.terms; tests = f.tests; properties = rest f.properties }

-- a row before what the rows behind it make
abbrev pub built : Row → Forest → Forest
built (Constant k) f = plant_term (constant k) f
built (Time a) f = plant_term (time_of a) f
built (Value a b) f = plant_term (value_of a b) f
built (Number a) f = plant_term (number_of a) f
built (Reckon o) f = plant_term (reckon o (term1 f) (term2 f)) (less_term (less_term f))
built True f = plant_test always f
built NotTest f = plant_test (not_t (test1 f)) (less_test f)
built (Join j) f = plant_test (join j (test1 f) (test2 f)) (less_test (less_test f))
built (Compare r) f = plant_test (compare r (term1 f) (term2 f)) (less_term (less_term f))
built Not f = plant (not_p (property1 f)) (less f)
built (Connect c) f = plant (connect c (property1 f) (property2 f)) (less (less f))
built (Occurrence a n) f = plant (occurrence a n (test1 f)) (less_test f)
built (Absence a) f = plant (absence a (test1 f)) (less_test f)
built (Scope s o a d) f = plant (scope s o a d (test1 f) (property1 f)) (less_test (less f))
built (Quantify q a b) f = plant (quantify q a b (property1 f)) (less f)

abbrev pub forest : List Row → Forest
forest [] = record { terms = []; tests = []; properties = [] }
forest (r ∷ rs) = built r (forest rs)

-- the rules of a sheet
abbrev pub rules_of : List Row → List Property
rules_of rs = (forest rs).properties

-- the property and the test that begin at a row
abbrev pub property_at : List Row → ℕ → Property
property_at rs at = property1 (forest (drop at rs))

abbrev pub test_at : List Row → ℕ → Test
test_at rs at = test1 (forest (drop at rs))

-- the rows of rules, one behind another
abbrev pub written : List Property → List Row
written [] = []
written (p ∷ ps) = rows p ++ written ps
