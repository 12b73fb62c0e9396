-- What a short list holds.
use Rattle.std.specs.Prelude.{ℕ, List, take}
use Rattle.lists.specs.declared.ShortList.{ShortList}

-- the items, the oldest first
abbrev pub items : {T : Type 0} {N : ℕ} → ShortList T N → List T
items l = take l.used l.slots
