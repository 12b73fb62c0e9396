-- A list that is filled with the results for 0, 1 and so on.
use Rattle.std.proofs.Common.{◌≡◌, ℕ, ◌+◌, ◌<◌, List, [], ◌∷◌, ◌++◌, map, length, sym, ap, ap₂, ◌∙◌, arith}
use Rattle.std.proofs.lemmas.List.FromFn.{length-map-range_with_len, map-range_with_len_more}
use Rattle.std.specs.List.{range_with_len}
use Rattle.lists.specs.Pushing.{with_item}
use Rattle.lists.proofs.Room.{with_room}

module _ {X : Type 0} (f : ℕ → X) (n : ℕ) (xs : List X) (i : ℕ) (so_far : xs ≡ map f (range_with_len 0 i)) where
  -- there is room until n are there
  pub has_room : i < n → length xs < n
  has_room h = omega (arith, ap length so_far, length-map-range_with_len f 0 i)

  pub filled : (v : X) → i < n → v ≡ f i → with_item n v xs ≡ map f (range_with_len 0 (i + 1))
  filled v h is = with_room n v xs (has_room h) ∙ ap₂ (λ l x. l ++ (x ∷ [])) so_far is ∙ sym (map-range_with_len_more f 0 i i (omega arith))
