-- How many events an image is taken with, or why it is refused.
use Rattle.std.specs.Prelude.{ℕ, List, Some, None, Ok, Err, Option, Result}
use Rattle.logs.specs.declared.image.ImageRefusal.{ImageRefusal}
use Rattle.logs.specs.declared.image.ImageRefusal.TheVariants.{Broken}
use Rattle.logs.specs.Image.{event_count, image_broken}

-- so many events, unless one is bad
abbrev pub taken_unless : Option ℕ → ℕ → Result ℕ ImageRefusal
taken_unless None n = Ok n
taken_unless (Some event) n = Err (Broken event)

-- how many events bytes hold, or the refusal by the lowest bad one
abbrev pub image_taken : List ℕ → Result ℕ ImageRefusal
image_taken bs = taken_unless (image_broken bs) (event_count bs)
