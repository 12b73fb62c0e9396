use Rattle.std.proofs.Common.{◌≡◌, ℕ, ◌+◌, ◌&&◌, nat_lt, List, [], ◌∷◌, refl, ap, ◌∙◌, rules}
use Rattle.std.proofs.lemmas.Iterator.{YieldsList-from_slice}
use Rattle.std.proofs.lemmas.Iterator.Consumers.{YieldsList-from_enumerate}
use Rattle.std.proofs.lemmas.Iterator.Search.{all_from_yields_List}
use Rattle.std.specs.List.{list_all, enumerate_from}
use borrow.Author.Tests.{tests}
use Rattle.logs.specs.declared.event.Value.{Value}
use Rattle.logs.specs.Events.{slot_in, slots_in}
use Rattle.logs.proofs.event.methods.slots_in.Goals as goal

list_all-slot_in : (n i : ℕ) (vs : List Value) → list_all (λ p. slot_in (nat_lt p.0 n) p.1) (enumerate_from i vs) ≡ slots_in n i vs
list_all-slot_in n i [] = refl
list_all-slot_in n i (v ∷ vs) = ap (λ b. slot_in (nat_lt i n) v && b) (list_all-slot_in n (i + 1) vs)

pub returns : goal.returns
returns c =
    let vs = c.args.slots.now in
    all_from_yields_List (λ p. slot_in (nat_lt p.0 c.args.count) p.1) _ _ c.all.result c.all.ensures.ran (YieldsList-from_enumerate (YieldsList-from_slice vs cc) cc) (λ x b q k. search (rules, tests))
    ∙ list_all-slot_in c.args.count 0 vs
