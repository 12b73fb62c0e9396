use Rattle.std.proofs.Common.{refl, arith}
use Rattle.rules.specs.declared.row.Row.TheVariants.{Not}
use Rattle.stacks.specs.Stacks.{held}
use Rattle.judging.proofs.Turns.{no_property, from_connect, scope_ready, from_scope, quantify_ready, from_quantify}
use Rattle.judging.proofs.matter.Matter.descend.Goals as goal

pub try_next-requires : goal.try_next-requires
try_next-requires g c =
    let es = g.L.ReadingLog.events c.args.self.now.log.now in
    let ok = c.requires.ready in
    record { ready = (scope_ready es c.args.self.now.rows.now _ _ c.args.at c.args.window _ ok Not c.new.ensures c.in-Scope.is c.args.self.now.ended refl refl, ok.waits) }

pub unreachable-requires : goal.unreachable-requires
unreachable-requires g c = no_property c.args.self.now.rows.now c.args.at Not _ c.requires.ready.stands.begins c.in_default.not-Not c.in_default.not-Connect c.in_default.not-Occurrence c.in_default.not-Absence c.in_default.not-Scope c.in_default.not-Quantify

pub returns-in-Connect : goal.returns-in-Connect
returns-in-Connect g c =
    let es = g.L.ReadingLog.events c.args.self.now.log.now in
    let rows = c.args.self.now.rows.now in
    let s = held c.args.progress.now.stack in
    let ok = c.requires.ready in
    record { onward = record { space = c.suspend-in-Connect.ensures.space; onward = rw (c.suspend-in-Connect.ensures.known, c.suspend-in-Connect.ensures.waiting, c.suspend-in-Connect.ensures.space, c.len-depth.ensures) (from_connect es rows _ _ c.args.at c.args.window s ok Not c.in-Connect.is c.args.self.now.ended) } }

pub returns-in-Scope : goal.returns-in-Scope
returns-in-Scope g c =
    let es = g.L.ReadingLog.events c.args.self.now.log.now in
    let laws = g.L.ReadingLog.laws c.args.self.now.log.now in
    let few = laws.within in
    let small = laws.small in
    record { onward = record { space = c.try_next.ensures.onward.space; onward = from_scope es c.args.self.now.rows.now _ _ c.args.at c.args.window _ c.requires.ready Not c.new.ensures c.in-Scope.is c.args.self.now.ended refl refl (omega arith) c.try_next.ensures.onward.onward } }

pub returns-in-Quantify : goal.returns-in-Quantify
returns-in-Quantify g c =
    let es = g.L.ReadingLog.events c.args.self.now.log.now in
    let rows = c.args.self.now.rows.now in
    let ok = c.requires.ready in
    let next = c.next_value.ensures.onward es rows (quantify_ready es rows _ _ c.args.at c.args.window _ ok Not c.new-in-Quantify.ensures c.in-Quantify.is refl, ok.waits) in
    record { onward = record { space = next.space; onward = from_quantify es rows _ _ c.args.at c.args.window _ ok Not c.new-in-Quantify.ensures c.in-Quantify.is refl next.onward } }
