-- A short list holds no more items than its type says.
use Rattle.std.proofs.Common.{ℕ, ◌≤◌, length, arith}
use Rattle.std.proofs.lemmas.List.{length-take}
use Rattle.lists.specs.declared.ShortList.{ShortList}
use Rattle.lists.specs.ShortLists.{items}

pub items_few : {T : Type 0} {N : ℕ} (l : ShortList T N) → length (items l) ≤ N
items_few l = let few = l.few in omega (arith, length-take l.used l.slots)
