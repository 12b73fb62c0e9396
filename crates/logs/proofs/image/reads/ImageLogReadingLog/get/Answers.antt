use Rattle.std.proofs.Common.{Some, sym, ap, ◌∙◌, arith}
use Rattle.std.proofs.lemmas.Option.{slice_get_past}
use Rattle.logs.specs.Image.{image_events}
use Rattle.logs.proofs.Taken.{whole_at, event_there}
use Rattle.logs.proofs.image.reads.ImageLogReadingLog.get.Goals as goal

pub invariant_of-image : goal.invariant_of-image
invariant_of-image c = record { whole = whole_at c.args.self.now.bytes.now _ c.args.place c.len-count.ensures c.if-place-count.true }

pub returns-then-place-count : goal.returns-then-place-count
returns-then-place-count c = ap Some (rw (c.at.ensures.bytes, c.at.ensures.count, c.at.ensures.i) at c.event.ensures) ∙ sym (event_there c.args.self.now.bytes.now _ c.args.place c.len-count.ensures c.if-place-count.true)

pub returns : goal.returns
returns c = sym (slice_get_past (image_events c.args.self.now.bytes.now) c.args.place (omega arith))
