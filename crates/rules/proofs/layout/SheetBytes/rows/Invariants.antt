use Rattle.std.proofs.Common.{◌≡◌, ◌-◌, ◌++◌, length}
use Rattle.lists.specs.ShortLists.{items}
use Rattle.rules.specs.Layout.{rows_from, rows_of}
use Rattle.rules.proofs.layout.SheetBytes.rows.Given as goal

abbrev pub invariant-loop-i : goal.invariant-loop-i
invariant-loop-i l = record {
  many : length (items l.rows) ≡ l.i;
  same : items l.rows ++ rows_from l.self.bytes.now l.self.count l.i (l.self.count - l.i) ≡ rows_of l.self.bytes.now;
}
