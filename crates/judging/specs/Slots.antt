-- Where the values of one code go on.
use Rattle.std.specs.Prelude.{◌≡◌, ℕ, ◌+◌, ◌<◌, ◌≤◌, [], ◌∷◌, Some, None, Option}
use Rattle.logs.specs.declared.event.Event.{Event}
use Rattle.logs.specs.declared.event.Value.{Value}
use Rattle.logs.specs.Events.{slot_count}
use Rattle.meaning.specs.Terms.{coded_from}

-- the next slot with the code, and its value, or none
abbrev pub NextCoded : Event → (code from : ℕ) → Option (ℕ × Value) → Type 0
NextCoded e b from None = coded_from b e from ≡ []
NextCoded e b from (Some x) = (from ≤ x.0) × (x.0 < slot_count) × (coded_from b e from ≡ x.1 ∷ coded_from b e (x.0 + 1))
