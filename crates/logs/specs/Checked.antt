-- What a log over an image is made from, and what its check answers.
use Rattle.std.specs.Prelude.{ℕ, List, Some, None, Ok, Err, Option, Result}
use Rattle.logs.specs.declared.image.ImageLog.{ImageLog}
use Rattle.logs.specs.declared.image.ImageRefusal.{ImageRefusal}
use Rattle.logs.specs.declared.image.ImageRefusal.TheVariants.{Broken}
use Rattle.logs.specs.Image.{image_broken}

-- the bytes that a log was made from
abbrev pub image_bytes : ImageLog → List ℕ
image_bytes log = log.bytes.now

-- a refusal by the lowest bad event
abbrev pub refused_by : Option ℕ → Result (Unit {0}) ImageRefusal
refused_by None = Ok tt
refused_by (Some event) = Err (Broken event)

-- what the check of an image answers
abbrev pub image_answer : List ℕ → Result (Unit {0}) ImageRefusal
image_answer bs = refused_by (image_broken bs)

-- the number that a refusal has in a report
abbrev pub image_refusal_number : ImageRefusal → ℕ
image_refusal_number (Broken event) = 12
