use Rattle.std.proofs.Common.{◌+◌, ap, ◌∙◌, ne_eqb}
use Rattle.logs.specs.Lawful.{time_at}
use Rattle.judging.proofs.Halving.{far_count}
use Rattle.judging.proofs.windows.cut.Goals as goal

pub returns-in-After-2 : goal.returns-in-After-2
returns-in-After-2 g c =
    rw (c.in-After-2.is, ne_eqb _ _ c.if-duration-eq0.false, ← c.requires.time) (ap (λ k. (c.args.place + 1, k)) c.first_from.ensures)

pub returns-in-Before-2 : goal.returns-in-Before-2
returns-in-Before-2 g c =
    let far = far_count c.args.duration c.args.time (time_at (g.L.ReadingLog.events c.args.log.now)) c.args.window.0 c.args.place in
    rw (c.in-Before-2.is, ne_eqb _ _ c.if-duration-eq0-2.false, ← c.requires.time)
    (ap (λ k. (k, c.args.place)) (c.first_from-in-Before-2.ensures ∙ rw c.saturating_sub-limit.ensures (ap (λ n. c.args.window.0 + n) far)))
