use Rattle.std.proofs.lemmas.Option.{unwrap_or-slice_get}
use Rattle.logs.specs.Events.{blank}
use Rattle.judging.proofs.windows.event_at.Goals as goal

pub returns : goal.returns
returns g c = cc (unwrap_or-slice_get (g.L.ReadingLog.events c.args.log.now) c.args.place blank)
