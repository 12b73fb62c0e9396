use Rattle.std.proofs.Common.{◌≡◌, [], ◌∷◌, ◌++◌, sym, refl, ap, ◌∙◌, arith}
use Rattle.std.proofs.lemmas.List.{length_push}
use Rattle.lists.specs.ShortLists.{items}
use Rattle.rules.specs.declared.row.Row.TheVariants.{Not}
use Rattle.std.specs.Result.{result_err}
use Rattle.rules.specs.Wanted.{property}
use Rattle.rules.specs.Sheets.{answer_to}
use Rattle.rules.proofs.Begun.{begun_more, starts_found}
use Rattle.rules.proofs.Decoding.{rule_read, rows_left}
use Rattle.lists.proofs.Room.{with_room}
use Rattle.rules.proofs.read.check_rules.Goals as goal

pub loop-i-preserved : goal.loop-i-preserved
loop-i-preserved c =
    let k = c.loop-i.invariant in
    let spans = c.in_ok-at.ensures.onward _ refl in
    let put : items c.push.new.self ≡ items c.loop-i.starts ++ (c.loop-i.at ∷ []) = c.push.ensures.items ∙ with_room _ _ _ (omega arith) in
    record {
      within = spans.within;
      same = sym (rule_read _ _ _ _ _ _ (ap property c.nothing.ensures) c.loop-i-test.true c.in_ok-at.ensures) ∙ k.same;
      many = rw (put, length_push) (omega arith);
      begun = rw put (begun_more _ _ _ _ k.many k.begun _ _ spans);
    }

pub returns-then-at-rows-clause-bad : goal.returns-then-at-rows-clause-bad
returns-then-at-rows-clause-bad c =
    ap (λ o. result_err (answer_to o)) (sym (rows_left _ _ _ _ c.loop-i-test.false Not c.if-at-rows.true) ∙ c.loop-i.invariant.same)

pub returns-clause-begun : goal.returns-clause-begun
returns-clause-begun c =
    let k = c.loop-i.invariant in
    let all : c.loop-i._i ≡ c.args.rules = omega arith in
    λ i. rw all at (starts_found _ _ _ _ k.many k.begun c.if-at-rows.false i)
