-- One item more, where there is room for n.
use Rattle.std.specs.Prelude.{ℕ, cond, List, [], ◌∷◌, ◌++◌, length, Result, Ok, Err, nat_lt}
use Rattle.lists.specs.declared.Full.{Full}

-- whether there is room for it
abbrev pub pushed : {T : Type 0} → (n : ℕ) → List T → Result (Unit {0}) Full
pushed n xs = cond (nat_lt (length xs) n) (Ok tt) (Err (record {}))

-- the items behind it, if there is room
abbrev pub with_item : {T : Type 0} → (n : ℕ) → T → List T → List T
with_item n x xs = cond (nat_lt (length xs) n) (xs ++ (x ∷ [])) xs
