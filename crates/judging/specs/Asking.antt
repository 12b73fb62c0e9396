-- Where a test can be asked.
use Rattle.std.specs.Prelude.{ℕ, ◌<◌, List, length}
use Rattle.rules.specs.declared.row.Row.{Row}
use Rattle.rules.specs.Forest.{test_at}
use Rattle.rules.specs.Limits.{deepest}
use Rattle.rules.specs.Trees.{Begins, test_rows}
use Rattle.meaning.specs.Terms.{Variables}

-- a test begins at a row, and one more variable can be known
pub record CanAsk (rows : List Row) (at : ℕ) (η : Variables) : Type 0 where
  pub spelt : Begins rows at (test_rows (test_at rows at))
  pub space : length η < deepest
