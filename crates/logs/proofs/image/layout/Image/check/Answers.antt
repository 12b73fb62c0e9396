use Rattle.std.proofs.Common.{sym, ap, ◌∙◌}
use Rattle.logs.specs.Checked.{refused_by}
use Rattle.logs.specs.ImageLaws.{former_next}
use Rattle.logs.proofs.Lowest.{lowest_here, lowest_later}
use Rattle.logs.proofs.image.layout.Image.check.Goals as goal

pub returns-then-not-is_good : goal.returns-then-not-is_good
returns-then-not-is_good c =
    let at = c.at-bytes.ensures in
    let bad = rw (c.event-event.ensures, at.bytes, at.count, at.i, c.loop-i.invariant.0) at (sym c.is_good.ensures ∙ c.if-not-is_good.true) in
    ap refused_by (sym (lowest_here c.args.self.now.bytes.now c.args.self.now.count c.loop-i.i c.loop-i-test.true bad) ∙ c.loop-i.invariant.1)

pub loop-i-preserved : goal.loop-i-preserved
loop-i-preserved c =
    let at = c.at-bytes.ensures in
    let good = rw (c.event-event.ensures, at.bytes, at.count, at.i, c.loop-i.invariant.0) at (sym c.is_good.ensures ∙ c.if-not-is_good.false) in (
      rw (c.event-event.ensures, at.bytes, at.i) (sym (former_next c.args.self.now.bytes.now c.loop-i.i)),
      sym (lowest_later c.args.self.now.bytes.now c.args.self.now.count c.loop-i.i c.loop-i-test.true good) ∙ c.loop-i.invariant.1,
    )
