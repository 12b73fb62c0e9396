use Rattle.std.proofs.Common.{refl, ap, ◌∙◌, arith}
use Rattle.rules.specs.Trees.{test_rows}
use Rattle.rules.specs.declared.row.Row.TheVariants.{Not, Join, Compare}
use Rattle.rules.proofs.Heads.{test_within, no_test}
use Rattle.meaning.specs.Three.{not3}
use Rattle.meaning.specs.Terms.{compared, tested, joined}
use Rattle.judging.proofs.Joins.{test_here, second_part, joined_parts}
use Rattle.judging.proofs.question.Question.+test.Goals as goal

pub row-requires : goal.row-requires
row-requires t c = let within = test_within _ _ _ c.requires.1 in omega arith

pub unreachable-requires : goal.unreachable-requires
unreachable-requires t c =
    no_test c.args.self.now.rows.now c.args.at Not c.requires.0 c.requires.1 (λ e. c.in_default.not-True (c.row.ensures ∙ e)) (λ e. c.in_default.not-NotTest (c.row.ensures ∙ e)) (λ j e. c.in_default.not-Join j (c.row.ensures ∙ e)) (λ s e. c.in_default.not-Compare s (c.row.ensures ∙ e))

pub test-x-requires : goal.test-x-requires
test-x-requires t c =
    let within = test_within _ _ _ c.requires.1 in
    let p = test_here c.row.ensures c.in-NotTest.is c.requires.0 c.requires.1 in
    (omega arith, (p.0, p.2))

pub test-x-requires-in-Join : goal.test-x-requires-in-Join
test-x-requires-in-Join t c =
    let within = test_within _ _ _ c.requires.1 in
    let p = test_here c.row.ensures c.in-Join.is c.requires.0 c.requires.1 in
    (omega arith, (p.first, p.left))

pub test-y-requires : goal.test-y-requires
test-y-requires t c =
    let within = test_within _ _ _ c.requires.1 in
    let p = test_here c.row.ensures c.in-Join.is c.requires.0 c.requires.1 in
    let further = (c.test-x-in-Join.ensures p.first p.left).next in
    (omega arith, second_part _ _ _ _ _ _ p _ c.test-x-in-Join.ensures)

pub term-x-requires : goal.term-x-requires
term-x-requires t c =
    let p = test_here c.row.ensures c.in-Compare.is c.requires.0 c.requires.1 in
    (p.first, p.left)

pub term-y-requires : goal.term-y-requires
term-y-requires t c =
    let p = test_here c.row.ensures c.in-Compare.is c.requires.0 c.requires.1 in
    second_part _ _ _ _ _ _ p _ c.term-x.ensures

pub returns-in-True : goal.returns-in-True
returns-in-True t c = λ u b. rw (test_here c.row.ensures c.in-True.is u b) record { value = refl; next = refl }

pub returns-in-NotTest : goal.returns-in-NotTest
returns-in-NotTest t c = λ u b.
    let p = test_here c.row.ensures c.in-NotTest.is u b in
    let x = c.test-x.ensures p.0 p.2 in
    let next = x.next in
    rw p.1 record { value = c.negate.ensures ∙ ap not3 x.value; next = omega arith }

pub returns-in-Join : goal.returns-in-Join
returns-in-Join t c = λ u b.
    let p = test_here c.row.ensures c.in-Join.is u b in
    joined_parts _ _ _ _ _ _ p _ c.test-x-in-Join.ensures test_rows (tested c.args.self.now.known.now c.args.self.now.place) (Join c.in-Join.junction) (joined c.in-Join.junction)
    (λ t u. refl) (λ t u. refl) _ c.test-y.ensures _ c.join.ensures

pub returns-in-Compare : goal.returns-in-Compare
returns-in-Compare t c = λ u b.
    let p = test_here c.row.ensures c.in-Compare.is u b in
    joined_parts _ _ _ _ _ _ p _ c.term-x.ensures test_rows (tested c.args.self.now.known.now c.args.self.now.place) (Compare c.in-Compare.relation) (compared c.in-Compare.relation)
    (λ t u. refl) (λ t u. refl) _ c.term-y.ensures _ (c.into.ensures ∙ c.compare.ensures)
