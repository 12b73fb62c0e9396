use Rattle.std.proofs.Common.{◌≡◌, [], ◌∷◌, ◌++◌, ap, ◌∙◌, append_assoc, append-nil, arith}
use Rattle.std.proofs.lemmas.List.{length_push}
use Rattle.lists.specs.ShortLists.{items}
use Rattle.rules.specs.Decoded.{decoded}
use Rattle.rules.proofs.Decoding.{rows_more, rows_stop}
use Rattle.lists.proofs.Room.{with_room}
use Rattle.rules.proofs.layout.SheetBytes.rows.Goals as goal

pub returns-in-Err-clause-same : goal.returns-in-Err-clause-same
returns-in-Err-clause-same c =
    let sheet = c.args.self.now in
    let none = rows_stop sheet.bytes.now sheet.count c.loop-i.i sheet.count c.loop-i-test.true (c.in-Err.ensures ∙ ap decoded c.raw_row.ensures) in
    rw (none, append-nil) at c.loop-i.invariant.same

pub loop-i-preserved : goal.loop-i-preserved
loop-i-preserved c =
    let sheet = c.args.self.now in
    let more = rows_more sheet.bytes.now sheet.count c.loop-i.i sheet.count c.loop-i-test.true c.in-Ok.row (c.in-Ok.ensures ∙ ap decoded c.raw_row.ensures) in
    let put : items c.push.new.self ≡ items c.loop-i.rows ++ (c.in-Ok.row ∷ []) = c.push.ensures.items ∙ with_room _ _ _ (omega arith) in
    record { many = rw (put, length_push) (omega arith); same = rw (put, append_assoc, ← more) c.loop-i.invariant.same }
