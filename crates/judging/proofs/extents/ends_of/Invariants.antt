use Rattle.std.proofs.Common.{◌≡◌, length}
use Rattle.judging.proofs.Endings.{EndsFrom}
use Rattle.judging.proofs.extents.ends_of.Given as goal

abbrev pub invariant-loop-i : goal.invariant-loop-i
invariant-loop-i l = (length l.ends ≡ 64) × EndsFrom l.rows l.ends l.i
