use Rattle.std.proofs.Common.{◌≡◌, ◌+◌, cond, List, ◌∷◌, refl, sym, ◌∙◌, arith, rules, tests}
use Rattle.std.proofs.lemmas.Iterator.{YieldsList-from_slice}
use Rattle.std.proofs.lemmas.Iterator.Consumers.{YieldsList-from_filter, count_from_yields_List}
use Rattle.std.proofs.lemmas.List.Sums.{length-filter}
use Rattle.std.proofs.lemmas.List.Recursion.{is_count_by}
use Rattle.rules.specs.declared.row.Row.{Row}
use Rattle.rules.specs.Reach.{is_property, property_rows}
use Rattle.rules.proofs.reach.property_rows.Goals as goal

one_more : (row : Row) (rows : List Row) → property_rows (row ∷ rows) ≡ cond (is_property row) (1 + property_rows rows) (property_rows rows)
one_more row rows = grind arith

pub returns : goal.returns
returns c =
    count_from_yields_List c.filter.result _ c.count.ensures.ran (YieldsList-from_filter _ is_property (YieldsList-from_slice c.args.rows.now cc) c.filter.ensures.closure (λ x b q k. search (rules, tests)))
    ∙ (length-filter is_property c.args.rows.now ∙ sym (is_count_by property_rows is_property refl one_more c.args.rows.now))
