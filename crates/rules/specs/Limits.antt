-- The bounds of a sheet of rules.
use Rattle.std.specs.Prelude.{ℕ}

abbrev pub most_rules : ℕ
most_rules = 16

abbrev pub most_rows : ℕ
most_rows = 64

-- so many rows that bind a variable may enclose one another
abbrev pub deepest : ℕ
deepest = 8
