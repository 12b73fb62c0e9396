-- The laws of every log.
use Rattle.std.specs.Prelude.{◌≡◌, ℕ, ◌+◌, ◌<◌, ◌≤◌, Bool, true, List, length}
use Rattle.std.specs.List.{list_all}
use Rattle.logs.specs.declared.event.Event.{Event}
use Rattle.logs.specs.Events.{in_bounds, event_at}

-- the most events that a log may have
abbrev pub most_events : ℕ
most_events = 65535

abbrev pub time_at : List Event → ℕ → ℕ
time_at es k = (event_at es k).time

-- each event's time is at most the next one's
abbrev pub NeverFalls : List Event → Type 0
NeverFalls es = (k : ℕ) → k + 1 < length es → time_at es k ≤ time_at es (k + 1)

abbrev pub all_in_bounds : List Event → Bool
all_in_bounds es = list_all in_bounds es

-- the laws of a log's list of events and its limit
pub record Lawful (es : List Event) (limit : ℕ) : Type 0 where
  pub ordered : NeverFalls es
  pub within : length es ≤ limit
  pub small : limit ≤ most_events
  pub inside : all_in_bounds es ≡ true
