-- An item put where there is room for it.
use Rattle.std.proofs.Common.{◌≡◌, ℕ, ◌<◌, cond, List, [], ◌∷◌, ◌++◌, length, Ok, Err, ap, lt-ltb}
use Rattle.lists.specs.Pushing.{pushed, with_item}

pub pushed_ok : {T : Type 0} (n : ℕ) (xs : List T) → length xs < n → pushed n xs ≡ Ok tt
pushed_ok n xs h = ap (λ b. cond b (Ok tt) (Err (record {}))) (lt-ltb _ _ h)

pub with_room : {T : Type 0} (n : ℕ) (x : T) (xs : List T) → length xs < n → with_item n x xs ≡ xs ++ (x ∷ [])
with_room n x xs h = ap (λ b. cond b (xs ++ (x ∷ [])) xs) (lt-ltb _ _ h)
