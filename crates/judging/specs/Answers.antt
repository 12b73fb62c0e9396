-- What is answered of the part at a row, a term or a test: what it says, and the row behind it.
use Rattle.std.specs.Prelude.{◌≡◌, ℕ, ◌+◌, List, length, ℤ, Result}
use Rattle.rules.specs.declared.row.Row.{Row}
use Rattle.rules.specs.Trees.{Term, Test, term_rows, test_rows}
use Rattle.meaning.specs.declared.verdict.Origin.{Origin}
use Rattle.meaning.specs.declared.verdict.Verdict.{Verdict}
use Rattle.meaning.specs.Terms.{Variables, reckoned, tested}

pub record PartAt {A R : Type 0} (rows_of : A → List Row) (said : (row : ℕ) → A → R) (row : ℕ) (t : A) (r : R × ℕ) : Type 0 where
  pub value : r.0 ≡ said row t
  pub next : r.1 ≡ row + length (rows_of t)

-- its number
abbrev pub TermAt : Variables → (place row : ℕ) → Term → Result ℤ Origin × ℕ → Type 0
TermAt η i = PartAt term_rows (reckoned η i)

-- its answer
abbrev pub TestAt : Variables → (place row : ℕ) → Test → Verdict × ℕ → Type 0
TestAt η i = PartAt test_rows (tested η i)
