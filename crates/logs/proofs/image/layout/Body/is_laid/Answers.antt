use Rattle.std.proofs.Common.{◌≡◌, ℕ, ◌&&◌, List, ◌+◌, take, drop, w16, sym, ap, ◌∙◌, arith, rules}
use Rattle.std.proofs.lemmas.Bool.{eq-eqb}
use Rattle.std.proofs.lemmas.Grind.{common_steps}
use Rattle.std.proofs.lemmas.Iterator.{YieldsList-from_range}
use Rattle.std.proofs.lemmas.Iterator.Search.{all_from_yields_List}
use Rattle.std.specs.Int.{from_le_bytes}
use Rattle.std.specs.List.{list_all, range_with_len}
use borrow.Author.Tests.{tests}
use Rattle.logs.specs.Events.{slot_count}
use Rattle.logs.specs.Image.{two, slot_place, slot_laid}
use Rattle.logs.proofs.Bodies.{body_laid-all}
use Rattle.logs.proofs.image.layout.Body.is_laid.Goals as goal

from_le_bytes-take : (bs : List ℕ) (i : ℕ) → from_le_bytes w16 (take 2 (drop i bs)) ≡ two bs i
from_le_bytes-take bs i = grind (arith, common_steps)

pub returns-then-from_le_bytes-eq0 : goal.returns-then-from_le_bytes-eq0
returns-then-from_le_bytes-eq0 c =
    let bs = c.args.self.now.bytes.now in
    let b = c.args.self.now.place in
    let zeros = sym (from_le_bytes-take bs (b + 2)) ∙ (ap (from_le_bytes w16) (sym c.bytes_at.ensures) ∙ (sym c.from_le_bytes.ensures ∙ c.if-from_le_bytes-eq0.true)) in
    all_from_yields_List (λ k. slot_laid bs (slot_place b k)) _ _ c.all.result c.all.ensures.ran (YieldsList-from_range 0 slot_count slot_count (search rules) (search rules)) (λ x r q k. search (rules, tests))
    ∙ sym (body_laid-all bs b ∙ ap (λ t. t && list_all (λ k. slot_laid bs (slot_place b k)) (range_with_len 0 slot_count)) (eq-eqb (two bs (b + 2)) 0 zeros))
