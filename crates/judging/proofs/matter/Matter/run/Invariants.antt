use Rattle.std.proofs.Common.{◌≡◌, []}
use Rattle.lists.specs.ShortLists.{items}
use Rattle.judging.specs.Machine.{Valid, worth, turns_left}
use Rattle.stacks.specs.Stacks.{held, room}
use Rattle.judging.proofs.matter.Matter.run.Given as goal

abbrev pub invariant-loop-turn : goal.invariant-loop-turn
invariant-loop-turn g l =
    let es = g.L.ReadingLog.events l.self.log.now in
    let rows = l.self.rows.now in
    let p = l.progress in
    Valid es rows (room p.stack) (items p.known) l.turn (held p.stack)
    × (worth es rows (items p.known) l.turn (held p.stack) ≡ worth es rows [] l.initial.turn [])

abbrev pub decreases-loop-turn : goal.decreases-loop-turn
decreases-loop-turn g l = turns_left l.self.rows.now l.turn (held l.progress.stack)
