use Rattle.std.proofs.Common.{sym, ap, ◌∙◌}
use Rattle.logs.specs.Checked.{image_answer}
use Rattle.logs.specs.Image.{image_events}
use Rattle.rules.specs.Sheets.{held}
use Rattle.reports.specs.Judged.{verdicts_of}
use Rattle.reports.proofs.Reporting.{answered}
use Rattle.reports.proofs.report.report.Goals as goal

pub returns : goal.returns
returns c =
    let image = c.new-log.ensures.image in
    answered c.args.bytes.now _ _ c.split.ensures.sheet c.split.ensures.image _ _ _ _ c.inspect-inspected.ensures.whole (c.check.ensures ∙ ap image_answer image) _ (sym c.check_input.ensures ∙ c.in_ok-check_input.was) (c.judge_all.ensures ∙ ap (λ l. verdicts_of (image_events l) (held c.inspect-inspected.new.self)) image)
