use Rattle.stacks.specs.Stacks.{held}
use Rattle.judging.proofs.Turns.{next_found}
use Rattle.judging.proofs.matter.Matter.try_next.Goals as goal

pub returns-in-Some : goal.returns-in-Some
returns-in-Some g c =
    let es = g.L.ReadingLog.events c.args.self.now.log.now in
    let rows = c.args.self.now.rows.now in
    let s = held c.args.progress.now.stack in
    let ready = c.requires.ready.0 in
    record {
      onward = record {
        space = c.suspend.ensures.space;
        onward = rw (c.suspend.ensures.known, c.suspend.ensures.waiting, c.suspend.ensures.space, c.cut.ensures, c.len-depth.ensures, c.doubt-lowest.ensures)
            (next_found es rows _ _ s c.args.row.scoping c.args.row.window c.args.row.left c.args.row.lowest c.args.row.verdict ready c.requires.ready.1 c.in-Some.found _ c.in-Some.ensures);
      };
    }
