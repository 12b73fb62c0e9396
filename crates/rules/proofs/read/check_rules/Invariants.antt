use Rattle.std.proofs.Common.{◌≡◌, ◌-◌, ◌≤◌, length, drop}
use Rattle.lists.specs.ShortLists.{items}
use Rattle.rules.specs.Layout.{rules_wanted}
use Rattle.rules.specs.Wanted.{first_bad}
use Rattle.rules.proofs.Begun.{Begun}
use Rattle.rules.proofs.read.check_rules.Given as goal

abbrev pub invariant-loop-i : goal.invariant-loop-i
invariant-loop-i l = record {
  within : l.at ≤ length l.rows;
  same : first_bad l.at (drop l.at l.rows) (rules_wanted (l.rules - l._i)) ≡ first_bad 0 l.rows (rules_wanted l.rules);
  many : length (items l.starts) ≡ l._i;
  begun : Begun l.rows l.at l._i (items l.starts);
}
