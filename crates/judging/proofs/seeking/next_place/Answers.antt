use Rattle.std.proofs.Common.{inl, inr, arith}
use Rattle.meaning.proofs.Places.{places_next}
use Rattle.judging.proofs.seeking.next_place.Goals as goal

pub returns-in-First : goal.returns-in-First
returns-in-First c =
    let next = places_next c.args.left.0 c.args.left.1 c.if-to-from.false in
    elim c.in-First.is [ inl e ↦ rw e (grind (arith, next)) | inr e ↦ rw e (grind (arith, next)) ]
