use Rattle.std.proofs.Common.{◌-◌}
use Rattle.logs.specs.Lawful.{time_at}
use Rattle.judging.proofs.Halving.{Halved}
use Rattle.judging.proofs.windows.first_from.Given as goal

abbrev pub invariant-loop-low : goal.invariant-loop-low
invariant-loop-low g l = Halved (time_at (g.L.ReadingLog.events l.log)) l.limit l.initial.low l.initial.high l.low l.high

abbrev pub decreases-loop-low : goal.decreases-loop-low
decreases-loop-low g l = l.high - l.low
