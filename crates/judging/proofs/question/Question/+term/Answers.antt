use Rattle.std.proofs.Common.{refl, ◌∙◌, arith, rules}
use Rattle.rules.specs.Trees.{term_rows}
use Rattle.rules.specs.declared.row.Row.TheVariants.{Not, Reckon}
use Rattle.rules.proofs.Heads.{term_within, no_term}
use Rattle.meaning.specs.Terms.{reckoned, strict}
use Rattle.judging.proofs.Joins.{term_here, second_part, joined_parts}
use Rattle.judging.proofs.question.Question.+term.Goals as goal

pub row-requires : goal.row-requires
row-requires t c = let within = term_within _ _ _ c.requires.1 in omega arith

pub term-x-requires : goal.term-x-requires
term-x-requires t c =
    let within = term_within _ _ _ c.requires.1 in
    let p = term_here c.row.ensures c.in-Reckon.is c.requires.0 c.requires.1 in
    (omega arith, (p.first, p.left))

pub term-y-requires : goal.term-y-requires
term-y-requires t c =
    let within = term_within _ _ _ c.requires.1 in
    let p = term_here c.row.ensures c.in-Reckon.is c.requires.0 c.requires.1 in
    let further = (c.term-x.ensures p.first p.left).next in
    (omega arith, second_part _ _ _ _ _ _ p _ c.term-x.ensures)

pub unreachable-requires : goal.unreachable-requires
unreachable-requires t c =
    no_term c.args.self.now.rows.now c.args.at Not c.requires.0 c.requires.1 (λ k e. c.in_default.not-Constant k (c.row.ensures ∙ e)) (λ a e. c.in_default.not-Time a (c.row.ensures ∙ e)) (λ a b e. c.in_default.not-Value a b (c.row.ensures ∙ e)) (λ a e. c.in_default.not-Number a (c.row.ensures ∙ e)) (λ o e. c.in_default.not-Reckon o (c.row.ensures ∙ e))

pub returns-in-Constant : goal.returns-in-Constant
returns-in-Constant t c = λ u b. rw (term_here c.row.ensures c.in-Constant.is u b) record { value = search rules; next = refl }

pub returns-in-Time : goal.returns-in-Time
returns-in-Time t c = λ u b. rw (term_here c.row.ensures c.in-Time.is u b) record { value = cc; next = refl }

pub returns-in-Value : goal.returns-in-Value
returns-in-Value t c = λ u b. rw (term_here c.row.ensures c.in-Value.is u b) record { value = cc; next = refl }

pub returns-in-Number : goal.returns-in-Number
returns-in-Number t c = λ u b. rw (term_here c.row.ensures c.in-Number.is u b) record { value = cc; next = refl }

pub returns-in-Reckon : goal.returns-in-Reckon
returns-in-Reckon t c = λ u b.
    let p = term_here c.row.ensures c.in-Reckon.is u b in
    joined_parts _ _ _ _ _ _ p _ c.term-x.ensures term_rows (reckoned c.args.self.now.known.now c.args.self.now.place) (Reckon c.in-Reckon.operation) (strict c.args.self.now.place c.args.at c.in-Reckon.operation)
    (λ t u. refl) (λ t u. refl) _ c.term-y.ensures _ c.combine.ensures
