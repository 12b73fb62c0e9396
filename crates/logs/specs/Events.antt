-- What an event may be.
use Rattle.std.specs.Prelude.{ℕ, ◌+◌, min, Bool, true, false, ◌&&◌, List, [], ◌∷◌, take, replicate, ◌==◌, nat_le, nat_lt, slice_index_or}
use Rattle.logs.specs.declared.event.Event.{Event}
use Rattle.logs.specs.declared.event.Value.{Value}
use Rattle.logs.specs.declared.event.Value.TheVariants.{Unread, Read}

-- the highest time
abbrev pub latest : ℕ
latest = 2147483647

-- how many slots an event has
abbrev pub slot_count : ℕ
slot_count = 4

abbrev pub code_of : Value → ℕ
code_of (Unread c) = c
code_of (Read c x) = c

-- a slot without a value
abbrev pub empty : Value
empty = Unread 0

abbrev pub is_empty : Value → Bool
is_empty (Unread c) = c == 0
is_empty (Read c x) = false

-- a slot that is used has a code, one that is not is empty
abbrev pub slot_in : Bool → Value → Bool
slot_in true v = nat_lt 0 (code_of v)
slot_in false v = is_empty v

-- the slots from i on, of which those below n are used
abbrev pub slots_in : ℕ → ℕ → List Value → Bool
slots_in n i [] = true
slots_in n i (v ∷ vs) = slot_in (nat_lt i n) v && slots_in n (i + 1) vs

-- an event within its bounds; names and codes are bytes and numbers are signed 32-bit ones by their types
abbrev pub in_bounds : Event → Bool
in_bounds e = nat_le e.time latest && (nat_lt 0 e.name && (nat_le e.count slot_count && slots_in e.count 0 e.slots))

-- the values of an event, in slot order
abbrev pub used : Event → List Value
used e = take (min e.count slot_count) e.slots

-- the event with nothing in it, which is outside its bounds
abbrev pub blank : Event
blank = record { time = 0; name = 0; count = 0; slots = replicate slot_count empty }

-- the event at a place, or the blank one where there is none
abbrev pub event_at : List Event → ℕ → Event
event_at es i = slice_index_or es i blank
