use Rattle.std.proofs.Common.{◌≡◌, ◌-◌}
use Rattle.meaning.specs.Three.{at_least3}
use Rattle.meaning.specs.Terms.{asked}
use Rattle.meaning.specs.Windows.{places}
use Rattle.rules.specs.Forest.{test_at}
use Rattle.lists.specs.ShortLists.{items}
use Rattle.judging.specs.Tallies.{ending}
use Rattle.judging.proofs.Counting.{Sound}
use Rattle.judging.proofs.matter.Matter.occurs.Given as goal

abbrev pub invariant-loop-place : goal.invariant-loop-place
invariant-loop-place g l =
    let f = asked (g.L.ReadingLog.events l.self.log.now) (items l.initial.known) l.at l.name (test_at l.self.rows.now l.at) in
    (items l.known ≡ items l.initial.known)
    × (ending l.count l.tally (places l.place l.to) f ≡ at_least3 l.count (places l.from l.to) f)
    × Sound (l.place - l.from) l.tally
