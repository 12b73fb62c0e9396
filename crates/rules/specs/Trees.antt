-- Rules as trees, and the rows that write them.
use Rattle.std.specs.Prelude.{◌≡◌, ℕ, suc, ◌+◌, List, [], ◌∷◌, ◌++◌, drop, ℤ}
use Rattle.rules.specs.declared.row.Connective.{Connective}
use Rattle.rules.specs.declared.row.Junction.{Junction}
use Rattle.rules.specs.declared.row.Quantifier.{Quantifier}
use Rattle.rules.specs.declared.row.Operation.{Operation}
use Rattle.rules.specs.declared.row.Relation.{Relation}
use Rattle.rules.specs.declared.row.Side.{Side}
use Rattle.rules.specs.declared.row.Pick.{Pick}
use Rattle.rules.specs.declared.row.Row.{Row}
use Rattle.rules.specs.declared.row.Row.TheVariants.{Not, Connect, Occurrence, Absence, Scope, Quantify, True, NotTest, Join, Compare, Constant, Time, Value, Number, Reckon}

pub data Term : Type 0 where
  constant : ℤ → Term
  time_of : (variable : ℕ) → Term
  value_of : (variable code : ℕ) → Term
  number_of : (variable : ℕ) → Term
  reckon : Operation → Term → Term → Term

pub data Test : Type 0 where
  always : Test
  not_t : Test → Test
  join : Junction → Test → Test → Test
  compare : Relation → Term → Term → Test

pub data Property : Type 0 where
  not_p : Property → Property
  connect : Connective → Property → Property → Property
  occurrence : (name count : ℕ) → Test → Property
  absence : (name : ℕ) → Test → Property
  scope : Side → Pick → (name duration : ℕ) → Test → Property → Property
  quantify : Quantifier → (variable code : ℕ) → Property → Property

-- the rows of a term, a test, a property: its own row, then those of its parts in their order

abbrev pub term_rows : Term → List Row
term_rows (constant k) = Constant k ∷ []
term_rows (time_of a) = Time a ∷ []
term_rows (value_of a b) = Value a b ∷ []
term_rows (number_of a) = Number a ∷ []
term_rows (reckon o t u) = Reckon o ∷ (term_rows t ++ term_rows u)

abbrev pub test_rows : Test → List Row
test_rows always = True ∷ []
test_rows (not_t t) = NotTest ∷ test_rows t
test_rows (join j t u) = Join j ∷ (test_rows t ++ test_rows u)
test_rows (compare r t u) = Compare r ∷ (term_rows t ++ term_rows u)

abbrev pub rows : Property → List Row
rows (not_p p) = Not ∷ rows p
rows (connect c p q) = Connect c ∷ (rows p ++ rows q)
rows (occurrence a n t) = Occurrence a n ∷ test_rows t
rows (absence a t) = Absence a ∷ test_rows t
rows (scope s o a d t p) = Scope s o a d ∷ (test_rows t ++ rows p)
rows (quantify q a b p) = Quantify q a b ∷ rows p

-- the reach of a rule: the number of its property rows
abbrev pub reach_of : Property → ℕ
reach_of (not_p p) = suc (reach_of p)
reach_of (connect c p q) = suc (reach_of p + reach_of q)
reach_of (occurrence a n t) = 1
reach_of (absence a t) = 1
reach_of (scope s o a d t p) = suc (reach_of p)
reach_of (quantify q a b p) = suc (reach_of p)

-- the rows from `at` on begin with these
pub record Begins (all : List Row) (at : ℕ) (front : List Row) : Type 0 where
  pub rest : List Row
  pub split : drop at all ≡ front ++ rest
