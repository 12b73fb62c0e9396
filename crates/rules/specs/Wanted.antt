-- Rows are read from left to right. Each row is read as the part that is wanted first, and wants its own parts in place of it.
use Rattle.std.specs.Prelude.{ℕ, ◌+◌, Bool, true, false, cond, ◌&&◌, List, [], ◌∷◌, ◌++◌, length, Some, None, Option, nat_lt, slice_index_or}
use Rattle.rules.specs.declared.known.Sort.{Sort}
use Rattle.rules.specs.declared.known.Sort.TheVariants as sort
use Rattle.rules.specs.declared.read.Part.{Part}
use Rattle.rules.specs.declared.read.Part.TheVariants as part
use Rattle.rules.specs.declared.row.Row.{Row}
use Rattle.rules.specs.declared.row.Row.TheVariants.{Not, Connect, Occurrence, Absence, Scope, Quantify, True, NotTest, Join, Compare, Constant, Time, Value, Number, Reckon}
use Rattle.rules.specs.Limits.{deepest}
use Rattle.rules.specs.Decoded.{when}

infixl 65 ◌⊕◌
abbrev pub same_sort : Sort → Sort → Bool
same_sort sort.Event sort.Event = true
same_sort sort.Number sort.Number = true
same_sort sort.Event sort.Number = false
same_sort sort.Number sort.Event = false

-- the variables known, each numbered by how many stand before it
abbrev pub Sorts : Type 0
Sorts = List Sort

abbrev pub known_as : Sort → Sorts → (variable : ℕ) → Bool
known_as s η a = nat_lt a (length η) && same_sort s (slice_index_or η a sort.Event)

abbrev pub ◌⊕◌ : Sorts → Sort → Sorts
η ⊕ s = η ++ (s ∷ [])

-- whether one more row may bind a variable
abbrev pub room_in : Sorts → Bool
room_in η = nat_lt (length η) deepest

-- the part that a row begins
abbrev pub part_of : Row → Part
part_of Not = part.Property
part_of (Connect c) = part.Property
part_of (Occurrence a n) = part.Property
part_of (Absence a) = part.Property
part_of (Scope s o a d) = part.Property
part_of (Quantify q a b) = part.Property
part_of True = part.Test
part_of NotTest = part.Test
part_of (Join j) = part.Test
part_of (Compare s) = part.Test
part_of (Constant k) = part.Term
part_of (Time a) = part.Term
part_of (Value a b) = part.Term
part_of (Number a) = part.Term
part_of (Reckon o) = part.Term

abbrev pub same_part : Part → Part → Bool
same_part part.Property part.Property = true
same_part part.Property part.Test = false
same_part part.Property part.Term = false
same_part part.Test part.Property = false
same_part part.Test part.Test = true
same_part part.Test part.Term = false
same_part part.Term part.Property = false
same_part part.Term part.Test = false
same_part part.Term part.Term = true

-- a part that is wanted, and the variables known in it
pub record Wanted : Type 0 where
  pub part : Part
  pub known : Sorts

abbrev pub property : Sorts → Wanted
property η = record { part = part.Property; known = η }

abbrev pub test : Sorts → Wanted
test η = record { part = part.Test; known = η }

abbrev pub term : Sorts → Wanted
term η = record { part = part.Term; known = η }

-- what a row that binds one more variable wants, unless too many enclose it
abbrev pub binding : Sorts → Sort → (Sorts → List Wanted) → Option (List Wanted)
binding η s f = when (room_in η) (f (η ⊕ s))

-- what a row wants that binds a number named by an event's variable
abbrev pub quantified : Sorts → (variable : ℕ) → Option (List Wanted)
quantified η a = when (known_as sort.Event η a && room_in η) (property (η ⊕ sort.Number) ∷ [])

-- what a row wants behind it, unless it names a variable that is not known, or binds one too many
abbrev pub wants : Sorts → Row → Option (List Wanted)
wants η Not = Some (property η ∷ [])
wants η (Connect c) = Some (property η ∷ property η ∷ [])
wants η (Occurrence a n) = binding η sort.Event (λ η'. test η' ∷ [])
wants η (Absence a) = binding η sort.Event (λ η'. test η' ∷ [])
wants η (Scope s o a d) = binding η sort.Event (λ η'. test η' ∷ property η' ∷ [])
wants η (Quantify q a b) = quantified η a
wants η True = Some []
wants η NotTest = Some (test η ∷ [])
wants η (Join j) = Some (test η ∷ test η ∷ [])
wants η (Compare s) = Some (term η ∷ term η ∷ [])
wants η (Constant k) = Some []
wants η (Time a) = when (known_as sort.Event η a) []
wants η (Value a b) = when (known_as sort.Event η a) []
wants η (Number a) = when (known_as sort.Number η a) []
wants η (Reckon o) = Some (term η ∷ term η ∷ [])

-- the same, where a part is wanted that the row must begin
abbrev pub followed : Wanted → Row → Option (List Wanted)
followed w r = cond (same_part w.part (part_of r)) (wants w.known r) None

-- the first bad row, the first of the rows having the number `at`: one that is not what is wanted, or the row behind all where more is wanted
abbrev pub first_bad : (at : ℕ) → List Row → List Wanted → Option ℕ
first_bad at [] [] = None
first_bad at [] (w ∷ ws) = Some at
first_bad at (r ∷ rs) [] = Some at
first_bad at (r ∷ rs) (w ∷ ws) = elim (followed w r) [ None ↦ Some at | Some more ↦ first_bad (at + 1) rs (more ++ ws) ]
