use Rattle.std.proofs.Common.{◌-◌, length}
use Rattle.rules.proofs.read.+read.Given as goal

abbrev pub decreases-read : goal.decreases-read
decreases-read l = length l.rows.now - l.at
