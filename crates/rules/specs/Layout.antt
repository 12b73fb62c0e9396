-- The bytes of a sheet. Numbers have the lowest byte first.
use Rattle.std.specs.Prelude.{◌≡◌, ℕ, zero, suc, ◌+◌, ◌*◌, ◌≤◌, Bool, cond, ◌&&◌, List, [], ◌∷◌, length, replicate, ℤ, Some, None, Option, ◌==◌, nat_le, slice_index}
use Rattle.std.specs.Int.{cast_signed, w32}
use Rattle.rules.specs.declared.raw.RawRow.{RawRow}
use Rattle.rules.specs.declared.row.Row.{Row}
use Rattle.rules.specs.Limits.{most_rules, most_rows}
use Rattle.rules.specs.Decoded.{decoded}
use Rattle.rules.specs.Wanted.{Wanted, property, first_bad}

abbrev pub byte : List ℕ → ℕ → ℕ
byte bs i = slice_index bs i

abbrev pub pair : List ℕ → ℕ → ℕ
pair bs i = byte bs i + byte bs (i + 1) * 256

abbrev pub signed : List ℕ → ℕ → ℤ
signed bs i = cast_signed w32 (byte bs i + byte bs (i + 1) * 256 + byte bs (i + 2) * 65536 + byte bs (i + 3) * 16777216)

-- how many rules, and how many rows
abbrev pub rule_count : List ℕ → ℕ
rule_count bs = pair bs 0

abbrev pub row_count : List ℕ → ℕ
row_count bs = pair bs 2

-- 1 to 16 rules, no fewer rows than rules and at most 64; four bytes, then heads of four bytes, then as many numbers of four bytes
abbrev pub sized : List ℕ → Bool
sized bs =
    nat_le 4 (length bs) && (nat_le 1 (rule_count bs) && (nat_le (rule_count bs) most_rules && (nat_le (rule_count bs) (row_count bs)
    && (nat_le (row_count bs) most_rows && length bs == 4 + 8 * row_count bs))))

-- the same, as facts
pub record Sizes (bs : List ℕ) : Type 0 where
  pub some : 1 ≤ rule_count bs
  pub few : rule_count bs ≤ most_rules
  pub each : rule_count bs ≤ row_count bs
  pub most : row_count bs ≤ most_rows
  pub all : length bs ≡ 4 + 8 * row_count bs

-- the head and the number of a row, of `n` rows
abbrev pub raw_at : List ℕ → (n i : ℕ) → RawRow
raw_at bs n i = record {
  kind = byte bs (4 + 4 * i);
  a = byte bs (4 + 4 * i + 1);
  b = byte bs (4 + 4 * i + 2);
  c = byte bs (4 + 4 * i + 3);
  number = signed bs (4 + 4 * n + 4 * i);
}

-- `left` rows from the row i on, up to the first whose head and number stand for none
abbrev pub rows_from : List ℕ → (n i left : ℕ) → List Row
rows_from bs n i zero = []
rows_from bs n i (suc left) = elim (decoded (raw_at bs n i)) [ None ↦ [] | Some r ↦ r ∷ rows_from bs n (i + 1) left ]

abbrev pub rows_of : List ℕ → List Row
rows_of bs = rows_from bs (row_count bs) 0 (row_count bs)

-- so many rules, in no variable's scope
abbrev pub rules_wanted : ℕ → List Wanted
rules_wanted n = replicate n (property [])

-- the first bad row of `n`, of which those before the first undefined one are given
abbrev pub settled : (n : ℕ) → List Row → Option ℕ → Option ℕ
settled n rows (Some bad) = Some bad
settled n rows None = cond (length rows == n) None (Some (length rows))

-- where bytes break the layout: the first bad row, the number of rows if they run out, 0 for wrong sizes
abbrev pub broken : List ℕ → Option ℕ
broken bs = cond (sized bs) (settled (row_count bs) (rows_of bs) (first_bad 0 (rows_of bs) (rules_wanted (rule_count bs)))) (Some 0)
