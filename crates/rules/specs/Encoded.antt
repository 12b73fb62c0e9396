-- The head and the number of each row, and the rows whose fields are within their bounds.
use Rattle.std.specs.Prelude.{◌≡◌, ℕ, Bool, true, ◌&&◌, List, ℤ, pos, nat_le}
use Rattle.std.specs.List.{list_all}
use Rattle.rules.specs.declared.row.Connective.{Connective}
use Rattle.rules.specs.declared.row.Connective.TheVariants as connective
use Rattle.rules.specs.declared.row.Junction.{Junction}
use Rattle.rules.specs.declared.row.Junction.TheVariants as junction
use Rattle.rules.specs.declared.row.Quantifier.{Quantifier}
use Rattle.rules.specs.declared.row.Quantifier.TheVariants.{Forall, Exists}
use Rattle.rules.specs.declared.row.Operation.{Operation}
use Rattle.rules.specs.declared.row.Operation.TheVariants.{Sum, Difference, Product, Quotient}
use Rattle.rules.specs.declared.row.Relation.{Relation}
use Rattle.rules.specs.declared.row.Relation.TheVariants.{Equal, Less, AtMost}
use Rattle.rules.specs.declared.row.Side.{Side}
use Rattle.rules.specs.declared.row.Side.TheVariants.{After, Before, Given}
use Rattle.rules.specs.declared.row.Pick.{Pick}
use Rattle.rules.specs.declared.row.Pick.TheVariants.{First, Last, Each}
use Rattle.rules.specs.declared.raw.RawRow.{RawRow}
use Rattle.rules.specs.declared.row.Row.{Row}
use Rattle.rules.specs.declared.row.Row.TheVariants.{Not, Connect, Occurrence, Absence, Scope, Quantify, True, NotTest, Join, Compare, Constant, Time, Value, Number, Reckon}
use Rattle.rules.specs.Decoded.{named, duration_allowed}

abbrev pub raw : (kind a b : ℕ) → ℤ → RawRow
raw k a b n = record { kind = k; a = a; b = b; c = 0; number = n }

abbrev pub bare_kind : ℕ → RawRow
bare_kind k = raw k 0 0 (pos 0)

abbrev pub side_kind : Side → ℕ
side_kind After = 7
side_kind Before = 8
side_kind Given = 9

abbrev pub pick_number : Pick → ℕ
pick_number First = 1
pick_number Last = 2
pick_number Each = 3

abbrev pub connective_kind : Connective → ℕ
connective_kind connective.Or = 2
connective_kind connective.And = 3
connective_kind connective.Implies = 4

abbrev pub quantifier_kind : Quantifier → ℕ
quantifier_kind Forall = 10
quantifier_kind Exists = 11

abbrev pub junction_kind : Junction → ℕ
junction_kind junction.And = 22
junction_kind junction.Or = 23

abbrev pub relation_kind : Relation → ℕ
relation_kind Equal = 24
relation_kind Less = 25
relation_kind AtMost = 26

abbrev pub operation_kind : Operation → ℕ
operation_kind Sum = 34
operation_kind Difference = 35
operation_kind Product = 36
operation_kind Quotient = 37

abbrev pub encoded : Row → RawRow
encoded Not = bare_kind 1
encoded (Connect c) = bare_kind (connective_kind c)
encoded (Occurrence a n) = raw 5 a 0 (pos n)
encoded (Absence a) = raw 6 a 0 (pos 0)
encoded (Scope s p a d) = raw (side_kind s) a (pick_number p) (pos d)
encoded (Quantify q a b) = raw (quantifier_kind q) a b (pos 0)
encoded True = bare_kind 20
encoded NotTest = bare_kind 21
encoded (Join j) = bare_kind (junction_kind j)
encoded (Compare s) = bare_kind (relation_kind s)
encoded (Constant k) = raw 30 0 0 k
encoded (Time a) = raw 31 a 0 (pos 0)
encoded (Value a b) = raw 32 a b (pos 0)
encoded (Number a) = raw 33 a 0 (pos 0)
encoded (Reckon o) = bare_kind (operation_kind o)

-- fields within their bounds
abbrev pub allowed : Row → Bool
allowed Not = true
allowed (Connect c) = true
allowed (Occurrence a n) = named a && nat_le n 65535
allowed (Absence a) = named a
allowed (Scope s p a d) = named a && duration_allowed s (pos d)
allowed (Quantify q a b) = named b
allowed True = true
allowed NotTest = true
allowed (Join j) = true
allowed (Compare s) = true
allowed (Constant k) = true
allowed (Time a) = true
allowed (Value a b) = named b
allowed (Number a) = true
allowed (Reckon o) = true

abbrev pub all_allowed : List Row → Bool
all_allowed rs = list_all allowed rs

-- a head and a number stand for a row exactly if they are its own, and its fields are within their bounds
pub record Stands (w : RawRow) (r : Row) : Type 0 where
  pub same : w ≡ encoded r
  pub good : allowed r ≡ true
