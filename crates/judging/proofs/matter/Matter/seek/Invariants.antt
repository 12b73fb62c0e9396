use Rattle.std.proofs.Common.{◌≡◌, ◌-◌}
use Rattle.lists.specs.ShortLists.{items}
use Rattle.judging.proofs.Seeks.{Trying}
use Rattle.judging.proofs.matter.Matter.seek.Given as goal

abbrev pub invariant-loop-place : goal.invariant-loop-place
invariant-loop-place g l =
    (items l.known ≡ items l.initial.known)
    × Trying (g.L.ReadingLog.events l.self.log.now) l.self.rows.now l.row.scoping l.row.verdict (items l.initial.known) l.initial.left l.left

abbrev pub decreases-loop-place : goal.decreases-loop-place
decreases-loop-place g l = l.left.1 - l.left.0
