use Rattle.std.proofs.Common.{◌<◌, is_ok, ap, ◌∙◌, arith}
use Rattle.lists.proofs.Room.{pushed_ok}
use Rattle.rules.specs.Sheets.{held}
use Rattle.rules.proofs.Sheets.{rules_few}
use Rattle.reports.specs.Judged.{verdict_of}
use Rattle.reports.proofs.Filling.{has_room, filled}
use Rattle.reports.proofs.Reaching.{judged_ok, judged_is}
use Rattle.reports.proofs.judged.judge_all.Goals as goal

pub unwrap-verdict-requires : goal.unwrap-verdict-requires
unwrap-verdict-requires g c =
    let es = g.L.ReadingLog.events c.args.log.now in
    let s = c.args.sheet.now in
    let within : c.loop-rule.rule < (held s).0 = omega arith in
    judged_ok es s c.loop-rule.rule within _ c.loop-rule.invariant.0 _ c.judge.ensures.answer

pub unwrap-requires : goal.unwrap-requires
unwrap-requires g c =
    let most = rules_few c.args.sheet.now in
    let few : c.loop-rule.rule < 16 = omega arith in
    ap is_ok (c.push.ensures.answer ∙ pushed_ok 16 _ (has_room _ 16 _ _ c.loop-rule.invariant.1 few))

pub loop-rule-preserved : goal.loop-rule-preserved
loop-rule-preserved g c =
    let es = g.L.ReadingLog.events c.args.log.now in
    let s = c.args.sheet.now in
    let i = c.loop-rule.rule in
    let most = rules_few s in
    let few : i < 16 = omega arith in
    let within : i < (held s).0 = omega arith in
    let verdict = judged_is es s i within _ c.loop-rule.invariant.0 _ _ c.judge.ensures.answer c.unwrap-verdict.ensures in (
      omega arith,
      c.push.ensures.items ∙ filled (verdict_of es (held s)) 16 _ i c.loop-rule.invariant.1 _ few verdict,
    )
