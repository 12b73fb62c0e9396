-- Whether bytes are as many as their count says.
use Rattle.std.specs.Prelude.{◌≡◌, ℕ, true, false, List, Ok, Err, Result}
use Rattle.logs.specs.declared.image.ImageRefusal.{ImageRefusal}
use Rattle.logs.specs.declared.image.ImageRefusal.TheVariants.{Broken}
use Rattle.logs.specs.declared.image.layout.Image.{Image}
use Rattle.logs.specs.Image.{sized, event_count, wrong_sizes}

abbrev pub SizesTell : (bytes : List ℕ) → Result Image ImageRefusal → Type 0
SizesTell bytes (Ok image) = (sized bytes ≡ true) × (image.bytes.now ≡ bytes) × (image.count ≡ event_count bytes)
SizesTell bytes (Err refusal) = (sized bytes ≡ false) × (refusal ≡ Broken wrong_sizes)
