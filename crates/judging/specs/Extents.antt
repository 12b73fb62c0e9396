-- How many parts follow a row, and where each part ends.
use Rattle.std.specs.Prelude.{◌≡◌, ℕ, zero, suc, ◌+◌, ◌<◌, ◌≤◌, true, List, [], ◌∷◌, length, drop, is_some, Some, None, Option, slice_index}
use Rattle.rules.specs.Limits.{most_rows}
use Rattle.rules.specs.declared.row.Row.{Row}
use Rattle.rules.specs.declared.row.Row.TheVariants.{Not, Connect, Occurrence, Absence, Scope, Quantify, True, NotTest, Join, Compare, Constant, Time, Value, Number, Reckon}

abbrev pub arity : Row → ℕ
arity Not = 1
arity (Connect c) = 2
arity (Occurrence a n) = 1
arity (Absence a) = 1
arity (Scope s o a d) = 2
arity (Quantify q a b) = 1
arity True = 0
arity NotTest = 1
arity (Join j) = 2
arity (Compare r) = 2
arity (Constant k) = 0
arity (Time a) = 0
arity (Value a b) = 0
arity (Number a) = 0
arity (Reckon o) = 2

-- the rows behind n parts, unless rows run out
abbrev pub beyond : (n : ℕ) → List Row → Option (List Row)
beyond zero rs = Some rs
beyond (suc n) [] = None
beyond (suc n) (r ∷ rs) = beyond (arity r + n) rs

-- the row behind the part at row i, which n parts follow, from the ends of the later parts
abbrev pub end_at : (n : ℕ) → (ends : List ℕ) → (i : ℕ) → ℕ
end_at zero ends i = i + 1
end_at (suc zero) ends i = slice_index ends (i + 1)
end_at (suc (suc n)) ends i = slice_index ends (slice_index ends (i + 1))

-- the part at row i ends before the row e
pub record EndsAt (rs : List Row) (i e : ℕ) : Type 0 where
  pub rest : beyond 1 (drop i rs) ≡ Some (drop e rs)
  pub forward : i < e
  pub inside : e ≤ length rs

-- a list of where each part ends, wherever rows do not run out
pub record Ends (rs : List Row) (ends : List ℕ) : Type 0 where
  pub long : length ends ≡ most_rows
  pub at : (i : ℕ) → i < length rs → is_some (beyond 1 (drop i rs)) ≡ true → EndsAt rs i (slice_index ends i)
