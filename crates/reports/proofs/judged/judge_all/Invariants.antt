use Rattle.std.proofs.Common.{◌≡◌, map, length}
use Rattle.std.specs.List.{range_with_len}
use Rattle.lists.specs.ShortLists.{items}
use Rattle.rules.specs.Sheets.{held}
use Rattle.reports.specs.Judged.{verdict_of}
use Rattle.reports.proofs.judged.judge_all.Given as goal

abbrev pub invariant-loop-rule : goal.invariant-loop-rule
invariant-loop-rule g l =
    (length l.work ≡ 64) × (items l.verdicts ≡ map (verdict_of (g.L.ReadingLog.events l.log) (held l.sheet)) (range_with_len 0 l.rule))
