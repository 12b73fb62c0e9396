use Rattle.std.proofs.Common.{arith}
use Rattle.logs.proofs.Taken.{length-image_events-le}
use Rattle.logs.proofs.image.ImageLog.new.Goals as goal

pub invariant_of-result-clause-few : goal.invariant_of-result-clause-few
invariant_of-result-clause-few c = omega (arith, length-image_events-le c.args.bytes.now, c.type_inv.bytes 0, c.type_inv.bytes 1)
