use Rattle.std.proofs.Common.{◌≡◌, ◌≤◌, length, Some, Ok, arith}
use Rattle.rules.specs.Sheets.{held, start_in, reach_in}
use Rattle.judging.proofs.Rules.{stands, answers}
use Rattle.judging.proofs.judge.judge.Goals as goal

pub verdict_at-requires-clause-stands : goal.verdict_at-requires-clause-stands
verdict_at-requires-clause-stands g c =
    let s = c.args.sheet.now in
    let at : start_in (held s) c.args.rule ≡ Some c.in_ok-at.at = cc c.in_ok-at.ensures.ok_part in
    let reach : reach_in (held s) c.args.rule ≡ Ok c.in_ok-reach.reach = cc c.in_ok-reach.was in
    let enough : c.in_ok-reach.reach ≤ length c.args.work.now = omega arith in
    rw c.rows.ensures (stands s c.args.rule _ _ _ at reach enough)

pub returns-clause-answer : goal.returns-clause-answer
returns-clause-answer g c =
    let s = c.args.sheet.now in
    let at : start_in (held s) c.args.rule ≡ Some c.in_ok-at.at = cc c.in_ok-at.ensures.ok_part in
    let reach : reach_in (held s) c.args.rule ≡ Ok c.in_ok-reach.reach = cc c.in_ok-reach.was in
    let enough : c.in_ok-reach.reach ≤ length c.args.work.now = omega arith in
    answers s c.args.rule _ _ _ at reach enough _ _ (rw c.rows.ensures at c.verdict_at.ensures)
