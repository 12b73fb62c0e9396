-- An image is taken exactly if its bytes hold the events of a log, and then it means these.
use Rattle.std.specs.Prelude.{◌≡◌, ℕ, ◌+◌, ◌*◌, ◌<◌, true, List, length, ℤ, pos, Some, None, slice_index_or}
use Rattle.logs.specs.declared.event.Event.{Event}
use Rattle.logs.specs.declared.event.Value.{Value}
use Rattle.logs.specs.declared.event.Value.TheVariants.{Unread, Read}
use Rattle.logs.specs.Events.{code_of, empty, slot_count, event_at}
use Rattle.logs.specs.Lawful.{NeverFalls, all_in_bounds}
use Rattle.logs.specs.Image.{Sizes, byte, two, four, signed, wrong_sizes, image_broken, image_events}

-- 1 once a value is read
abbrev pub state_of : Value → ℕ
state_of (Unread c) = 0
state_of (Read c x) = 1

-- the number of a value, 0 until it is read
abbrev pub number_of : Value → ℤ
number_of (Unread c) = pos 0
number_of (Read c x) = x

-- the six bytes of a value
pub record HoldsValue (bs : List ℕ) (place : ℕ) (v : Value) : Type 0 where
  pub code : byte bs place ≡ code_of v
  pub state : byte bs (place + 1) ≡ state_of v
  pub number : signed bs (place + 2) ≡ number_of v

-- the 28 bytes of all of an event but its time
pub record HoldsBody (bs : List ℕ) (place : ℕ) (e : Event) : Type 0 where
  pub name : byte bs place ≡ e.name
  pub count : byte bs (place + 1) ≡ e.count
  pub padding : two bs (place + 2) ≡ 0
  pub wide : length e.slots ≡ slot_count
  pub slots : (k : ℕ) → k < slot_count → HoldsValue bs (place + 4 + 6 * k) (slice_index_or e.slots k empty)

-- the times and the bodies of these events, the first of n
pub record HoldsEvents (bs : List ℕ) (n : ℕ) (es : List Event) : Type 0 where
  pub times : (i : ℕ) → i < length es → four bs (4 + 4 * i) ≡ (event_at es i).time
  pub bodies : (i : ℕ) → i < length es → HoldsBody bs (4 + 4 * n + 28 * i) (event_at es i)

-- the bytes of these events: how many there are, the width of a body, the times, the bodies, and no more
pub record Holds (bs : List ℕ) (es : List Event) : Type 0 where
  pub count : two bs 0 ≡ length es
  pub width : two bs 2 ≡ 28
  pub whole : length bs ≡ 4 + 32 * length es
  pub events : HoldsEvents bs (length es) es

-- events as a log has them: within their bounds, and in the order of their times
pub record InOrder (es : List Event) : Type 0 where
  pub inside : all_in_bounds es ≡ true
  pub ordered : NeverFalls es

-- so many events of a log come first
pub record Begins (bs : List ℕ) (many : ℕ) (es : List Event) : Type 0 where
  pub long : length es ≡ many
  pub held : HoldsEvents bs (two bs 0) es
  pub in_order : InOrder es

-- the event i is the lowest bad one: i events of a log come first, and not one more
pub record Lowest (bs : List ℕ) (i : ℕ) : Type 0 where
  pub within : i < two bs 0
  pub before : (es : List Event) × Begins bs i es
  pub bad : (es : List Event) → Begins bs (i + 1) es → ⊥

-- the bytes of a log's events are taken and mean these, and no others are taken;
-- well sized ones are refused with the lowest bad event, and the others with what stands for wrong sizes
pub record Exact : Type 0 where
  pub taken : (bs : List ℕ) (es : List Event) → Holds bs es → InOrder es → (image_broken bs ≡ None) × (image_events bs ≡ es)
  pub only : (bs : List ℕ) → image_broken bs ≡ None → Holds bs (image_events bs) × InOrder (image_events bs)
  pub refused : (bs : List ℕ) (i : ℕ) → Sizes bs → image_broken bs ≡ Some i → Lowest bs i
  pub wrong : (bs : List ℕ) → (Sizes bs → ⊥) → image_broken bs ≡ Some wrong_sizes
