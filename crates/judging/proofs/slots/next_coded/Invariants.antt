use Rattle.std.proofs.Common.{◌≡◌}
use Rattle.meaning.specs.Terms.{coded_from}
use Rattle.judging.proofs.slots.next_coded.Given as goal

abbrev pub invariant-loop-slot : goal.invariant-loop-slot
invariant-loop-slot l = coded_from l.code l.event l.slot ≡ coded_from l.code l.event l.from
