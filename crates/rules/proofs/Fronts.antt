-- What follows where the rows from a row on begin with some.
use Rattle.std.proofs.Common.{◌≡◌, ℕ, ◌+◌, ◌<◌, ◌≤◌, List, ◌∷◌, ◌++◌, length, get_or, drop, sym, refl, ap, ◌∙◌, ⊎_elim, append_assoc, arith}
use Rattle.std.proofs.lemmas.List.{drop_more, drop_all, drop-drop, drop_at}
use Rattle.std.proofs.lemmas.Bool.{cases_lt}
use Rattle.rules.specs.declared.row.Row.{Row}
use Rattle.rules.specs.Trees.{Begins}

module _ (all : List Row) (at : ℕ) (r : Row) (rs : List Row) (begins : Begins all at (r ∷ rs)) where
  pub front_within : at < length all
  front_within = ⊎_elim (λ h. h) (λ h. absurd (past h)) (cases_lt at (length all))
    where
      past : length all ≤ at → ⊥
      past h = let none = drop_all at all h in let some = begins.split in let z : ◌≡◌ {A = ℕ} 0 1 = cc in omega arith

  pub front_row : (d : Row) → get_or all at d ≡ r
  front_row d = let more = drop_more all at d front_within in let some = begins.split in cc

  pub front_rest : (d : Row) → Begins all (at + 1) rs
  front_rest d =
      record { rest = begins.rest; split = let more = drop_more all at d front_within in let some = begins.split in cc }

module _ (all : List Row) (at : ℕ) (xs ys : List Row) (begins : Begins all at (xs ++ ys)) where
  pub front_left : Begins all at xs
  front_left = record { rest = ys ++ begins.rest; split = begins.split ∙ append_assoc xs ys begins.rest }

  pub front_right : Begins all (at + length xs) ys
  unfolding front_left
  front_right =
      record {
        rest = begins.rest;
        split = sym (drop-drop (length xs) at all) ∙ ap (drop (length xs)) front_left.split ∙ drop_at xs (ys ++ begins.rest) (length xs) refl;
      }
