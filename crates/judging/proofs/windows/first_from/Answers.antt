use Rattle.std.proofs.Common.{arith}
use Rattle.judging.proofs.Halving.{halved_up, halved_down, halved_end}
use Rattle.judging.proofs.windows.first_from.Goals as goal

pub loop-low-preserved-then-event_at-limit : goal.loop-low-preserved-then-event_at-limit
loop-low-preserved-then-event_at-limit g c =
    halved_up _ (g.L.ReadingLog.laws c.args.log.now).ordered _ _ _ _ _ _ c.requires c.loop-low.invariant (omega arith) (omega arith) (rw c.event_at.ensures at c.if-event_at-limit.true)

pub loop-low-preserved : goal.loop-low-preserved
loop-low-preserved g c =
    halved_down _ (g.L.ReadingLog.laws c.args.log.now).ordered _ _ _ _ _ _ c.requires c.loop-low.invariant (omega arith) (omega arith) (rw c.event_at.ensures at c.if-event_at-limit.false)

pub returns : goal.returns
returns g c = halved_end _ _ _ _ _ _ c.loop-low.invariant c.loop-low-test.false
