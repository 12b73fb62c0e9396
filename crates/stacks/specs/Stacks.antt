-- What a stack over lent memory holds, its newest item first.
use Rattle.std.specs.Prelude.{ℕ, cond, List, [], ◌∷◌, reverse, length, take, Some, None, Option, nat_lt}
use Rattle.stacks.specs.declared.Stack.{Stack}

abbrev pub pile : {T : Type 0} → ℕ → List T → List T
pile used slots = reverse (take used slots)

abbrev pub held : {T : Type 0} → Stack T → List T
held s = pile s.used s.slots.now

-- for how many items there is place
abbrev pub room : {T : Type 0} → Stack T → ℕ
room s = length s.slots.now

-- one item more, if there is place
abbrev pub with_item : {T : Type 0} → (room : ℕ) → T → List T → List T
with_item n x xs = cond (nat_lt (length xs) n) (x ∷ xs) xs

abbrev pub head_of : {T : Type 0} → List T → Option T
head_of [] = None
head_of (x ∷ xs) = Some x

abbrev pub tail_of : {T : Type 0} → List T → List T
tail_of [] = []
tail_of (x ∷ xs) = xs
