use Rattle.std.proofs.Common.{◌≡◌, ℕ, ◌+◌, ◌-◌, ◌<◌, List, take, drop, Ok, sym, ap, ◌∙◌}
use Rattle.std.proofs.lemmas.Bool.{ltb-true}
use Rattle.std.proofs.lemmas.Option.{cond_some}
use Rattle.rules.specs.declared.row.Row.{Row}
use Rattle.rules.specs.declared.sheet.Sheet.{Sheet}
use Rattle.rules.specs.Trees.{reach_of}
use Rattle.rules.specs.Reach.{property_rows}
use Rattle.rules.specs.Sheets.{held}
use Rattle.rules.specs.Written.{rule_at, start_of}
use Rattle.rules.proofs.Extents.{rows_between}
use Rattle.rules.proofs.Reached.{reached}
use Rattle.rules.proofs.Sheets.{sheet_writes}
use Rattle.rules.proofs.sheet.Sheet.reach.Goals as goal

-- the property rows between two starts
between : (s : Sheet) (i : ℕ) → i < (held s).0 → (all : List Row) (from to : ℕ) → all ≡ (held s).1 → from ≡ start_of (held s).1 i → to ≡ start_of (held s).1 (i + 1) →
    property_rows (take (to - from) (drop from all)) ≡ reach_of (rule_at (held s).1 i)
between s i h all from to e f g = rw (e, f, g) (ap property_rows (rows_between (held s).1 (held s).0 (sheet_writes s) i h) ∙ reached (rule_at (held s).1 i))

pub returns : goal.returns
returns c =
    let start = cond_some _ _ _ (sym c.start.ensures ∙ c.in_ok-start.ensures.ok_part) in
    rw start.0 (ap Ok (c.property_rows.ensures ∙ between c.args.self.now c.args.rule (ltb-true _ _ start.0) _ _ _ c.rows.ensures (sym start.1) c.behind.ensures.next))
