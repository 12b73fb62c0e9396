use Rattle.std.proofs.Common.{◌≡◌, ◌+◌, ◌-◌, sym, ap, ◌∙◌, subst, arith}
use Rattle.rules.specs.Forest.{test_at}
use Rattle.meaning.specs.declared.verdict.Variable.TheVariants.{Event}
use Rattle.meaning.specs.Terms.{asked}
use Rattle.meaning.specs.Windows.{places}
use Rattle.meaning.proofs.Places.{places_next}
use Rattle.lists.specs.ShortLists.{items}
use Rattle.judging.specs.Tallies.{noted, ending}
use Rattle.judging.proofs.Binding.{asked_is, unbound}
use Rattle.judging.proofs.Counting.{ending_next, ending_certain, Sound, noted_sound, places_many}
use Rattle.judging.proofs.matter.Matter.occurs.Goals as goal

pub loop-place-preserved : goal.loop-place-preserved
loop-place-preserved g c =
    let es = g.L.ReadingLog.events c.args.self.now.log.now in
    let η = items c.args.known.now in
    let test = test_at c.args.self.now.rows.now c.args.at in
    let f = asked es η c.args.at c.args.name test in
    let n = c.args.count in
    let i = c.loop-place.place in
    let to = c.args.window.1 in
    let answer = asked_is es η c.args.at c.args.name test i c.event_at.ensures c.loop-place.invariant.0 c.ask-answer.ensures.answer in
    let t = c.note-tally.ensures ∙ ap (λ v. noted v c.loop-place.tally) answer in
    let more : i + 1 - c.args.window.0 ≡ i - c.args.window.0 + 1 = omega arith in
    let sound = noted_sound (f i) c.loop-place.tally (i - c.args.window.0) c.loop-place.invariant.2 in (
      unbound η (Event c.event_at.result) _ c.len-depth.ensures c.loop-place.invariant.0 c.ask-answer.ensures.known c.truncate.ensures,
      ap (λ u. ending n u (places (i + 1) to) f) t ∙ sym (ending_next n f c.loop-place.tally i (places (i + 1) to))
          ∙ ap (λ l. ending n c.loop-place.tally l f) (sym (places_next i to c.loop-place-test.true)) ∙ c.loop-place.invariant.1,
      subst (Sound (i + 1 - c.args.window.0)) (sym t) (rw more sound),
    )

pub returns-then-is_unchanging-clause-answer : goal.returns-then-is_unchanging-clause-answer
returns-then-is_unchanging-clause-answer g c =
    let f = asked (g.L.ReadingLog.events c.args.self.now.log.now) (items c.args.known.now) c.args.at c.args.name (test_at c.args.self.now.rows.now c.args.at) in
    c.weigh.ensures
    ∙ sym (ending_certain c.args.count f c.loop-place.tally _ _ _ c.loop-place.invariant.2 (places_many c.loop-place.place c.args.window.1) (sym c.if-is_unchanging.ensures))
    ∙ c.loop-place.invariant.1
