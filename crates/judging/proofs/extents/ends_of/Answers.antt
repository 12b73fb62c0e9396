use Rattle.std.proofs.Common.{◌≡◌, ◌+◌, ◌-◌, ◌<◌, length, sym, subst, arith}
use Rattle.std.proofs.lemmas.List.{length-set}
use Rattle.judging.specs.Extents.{EndsAt}
use Rattle.judging.proofs.Endings.{EndsFrom, end_next, ends_more}
use Rattle.judging.proofs.extents.ends_of.Goals as goal

pub loop-i-preserved : goal.loop-i-preserved
loop-i-preserved c =
    let rs = c.args.rows.now in
    let ends = c.loop-i.ends in
    let i = c.loop-i.i - 1 in
    let long = c.loop-i.invariant.0 in
    let few = c.requires in
    let most = c.loop-i.auto.i in
    let some = c.loop-i-test.true in
    let back : i + 1 ≡ c.loop-i.i = omega arith in
    let later = subst (EndsFrom rs ends) (sym back) c.loop-i.invariant.1 in
    let within : i < length rs = omega arith in
    let room : i < length ends = omega arith in (
      simp length-set long,
      ends_more rs ends i c.end_of.result room later
          (λ s. subst (EndsAt rs i) (sym c.end_of.ensures) (end_next rs ends i _ later within s c.parts.result (sym c.parts.ensures))),
    )
