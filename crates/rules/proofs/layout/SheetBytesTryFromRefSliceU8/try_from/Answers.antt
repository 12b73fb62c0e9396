use Rattle.std.proofs.Common.{refl, arith}
use Rattle.std.proofs.lemmas.Grind.{common_steps}
use Rattle.rules.proofs.layout.SheetBytesTryFromRefSliceU8.try_from.Goals as goal

pub returns-else-contains : goal.returns-else-contains
returns-else-contains c = (grind (arith, common_steps), refl)
