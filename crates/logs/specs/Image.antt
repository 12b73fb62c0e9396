-- The bytes of an image: the events of a log, as they are stored. Numbers have the lowest byte first.
use Rattle.std.specs.Prelude.{◌≡◌, ℕ, zero, suc, ◌+◌, ◌*◌, ◌≤◌, Bool, cond, ◌&&◌, ◌||◌, List, [], ◌∷◌, map, length, ℤ, Some, None, Option, ◌==◌, nat_le, slice_index}
use Rattle.std.specs.Int.{cast_signed, w32}
use Rattle.std.specs.List.{range_with_len}
use Rattle.logs.specs.declared.event.Event.{Event}
use Rattle.logs.specs.declared.event.Value.{Value}
use Rattle.logs.specs.declared.event.Value.TheVariants.{Unread, Read}
use Rattle.logs.specs.Events.{slot_count, in_bounds}

abbrev pub byte : List ℕ → ℕ → ℕ
byte bs i = slice_index bs i

-- the number in two bytes, in four, and in four with a sign
abbrev pub two : List ℕ → ℕ → ℕ
two bs i = byte bs i + byte bs (i + 1) * 256

abbrev pub four : List ℕ → ℕ → ℕ
four bs i = byte bs i + byte bs (i + 1) * 256 + byte bs (i + 2) * 65536 + byte bs (i + 3) * 16777216

abbrev pub signed : List ℕ → ℕ → ℤ
signed bs i = cast_signed w32 (four bs i)

-- an image begins with how many events it has, and how wide the body of each is
abbrev pub event_count : List ℕ → ℕ
event_count bs = two bs 0

-- a slot has a code, a state and a number; a body has a name, a count, two zero bytes and the slots
abbrev pub slot_width : ℕ
slot_width = 6

abbrev pub body_width : ℕ
body_width = 4 + slot_width * slot_count

-- a time and a body
abbrev pub event_width : ℕ
event_width = 4 + body_width

-- those four bytes, a time of four bytes for each event, then a body for each
abbrev pub sized : List ℕ → Bool
sized bs = nat_le 4 (length bs) && (two bs 2 == body_width && length bs == 4 + event_width * event_count bs)

-- the same, as facts
pub record Sizes (bs : List ℕ) : Type 0 where
  pub head : 4 ≤ length bs
  pub width : two bs 2 ≡ body_width
  pub whole : length bs ≡ 4 + event_width * event_count bs

-- where the time of event i is, where its body is if there are n, and where the slot k of a body is
abbrev pub time_place : ℕ → ℕ
time_place i = 4 + 4 * i

abbrev pub body_place : (n i : ℕ) → ℕ
body_place n i = 4 + 4 * n + body_width * i

abbrev pub slot_place : (body k : ℕ) → ℕ
slot_place body k = body + 4 + slot_width * k

-- a slot: a code, a state, which is 1 once it is read, and a number
abbrev pub slot_at : List ℕ → (place : ℕ) → Value
slot_at bs p = cond (byte bs (p + 1) == 1) (Read (byte bs p) (signed bs (p + 2))) (Unread (byte bs p))

-- its state is 1, or its state and its number are 0
abbrev pub slot_laid : List ℕ → (place : ℕ) → Bool
slot_laid bs p = byte bs (p + 1) == 1 || (byte bs (p + 1) == 0 && four bs (p + 2) == 0)

-- a body: a name, a count, two zero bytes, then four slots
abbrev pub slots_at : List ℕ → (body : ℕ) → List Value
slots_at bs b = slot_at bs (slot_place b 0) ∷ slot_at bs (slot_place b 1) ∷ slot_at bs (slot_place b 2) ∷ slot_at bs (slot_place b 3) ∷ []

abbrev pub body_laid : List ℕ → (body : ℕ) → Bool
body_laid bs b =
    (two bs (b + 2) == 0)
    && (slot_laid bs (slot_place b 0) && (slot_laid bs (slot_place b 1) && (slot_laid bs (slot_place b 2) && slot_laid bs (slot_place b 3))))

abbrev pub time_held : List ℕ → ℕ → ℕ
time_held bs i = four bs (time_place i)

-- the event i of n that the bytes hold
abbrev pub held_at : List ℕ → (n i : ℕ) → Event
held_at bs n i = record {
  time = time_held bs i;
  name = byte bs (body_place n i);
  count = byte bs (body_place n i + 1);
  slots = slots_at bs (body_place n i);
}

-- the time of the event before, or 0
abbrev pub former_time : List ℕ → ℕ → ℕ
former_time bs zero = 0
former_time bs (suc i) = time_held bs i

-- an event is good if its body is well laid, it is within its bounds, and its time is not below the former
abbrev pub good_event : List ℕ → (body former : ℕ) → Event → Bool
good_event bs body former e = body_laid bs body && (in_bounds e && nat_le former e.time)

abbrev pub good_at : List ℕ → (n i : ℕ) → Bool
good_at bs n i = good_event bs (body_place n i) (former_time bs i) (held_at bs n i)

-- the lowest bad event among `left` from event i on
abbrev pub lowest_bad : List ℕ → (n i left : ℕ) → Option ℕ
lowest_bad bs n i zero = None
lowest_bad bs n i (suc left) = cond (good_at bs n i) (lowest_bad bs n (i + 1) left) (Some i)

-- what stands for wrong sizes
abbrev pub wrong_sizes : ℕ
wrong_sizes = 65535

-- where bytes break the layout, if they do
abbrev pub image_broken : List ℕ → Option ℕ
image_broken bs = cond (sized bs) (lowest_bad bs (event_count bs) 0 (event_count bs)) (Some wrong_sizes)

-- the first m events of n, and all of them
abbrev pub first_events : List ℕ → (n m : ℕ) → List Event
first_events bs n m = map (held_at bs n) (range_with_len 0 m)

abbrev pub events_in : List ℕ → List Event
events_in bs = first_events bs (event_count bs) (event_count bs)

abbrev pub unless_broken : Option ℕ → List Event → List Event
unless_broken None es = es
unless_broken (Some i) es = []

-- what an image means: the events that its bytes hold, or none if it is broken
abbrev pub image_events : List ℕ → List Event
image_events bs = unless_broken (image_broken bs) (events_in bs)
