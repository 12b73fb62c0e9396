use Rattle.std.proofs.Common.{◌-◌, length}
use Rattle.judging.proofs.question.Question.+test.Given as goal

abbrev pub decreases-test : goal.decreases-test
decreases-test l = length l.self.now.rows.now - l.at
