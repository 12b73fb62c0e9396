use Rattle.std.proofs.Common.{◌-◌, length}
use Rattle.judging.proofs.question.Question.+term.Given as goal

abbrev pub decreases-term : goal.decreases-term
decreases-term l = length l.self.now.rows.now - l.at
