-- Where a sheet ends within an input, and why an input is refused.
use Rattle.std.specs.Prelude.{ℕ, ◌+◌, ◌*◌, min, cond, List, length, Some, None, Ok, Err, Option, Result, nat_lt}
use Rattle.logs.specs.declared.image.ImageRefusal.{ImageRefusal}
use Rattle.logs.specs.declared.image.ImageRefusal.TheVariants.{Broken}
use Rattle.logs.specs.Checked.{image_refusal_number}
use Rattle.rules.specs.declared.sheet.InspectRefusal.{InspectRefusal}
use Rattle.rules.specs.declared.sheet.InspectRefusal.TheVariants.{Layout}
use Rattle.rules.specs.Layout.{row_count}
use Rattle.rules.specs.Sheets.{inspect_refusal_number}
use Rattle.reports.specs.declared.input.InputRefusal.{InputRefusal}
use Rattle.reports.specs.declared.input.InputRefusal.TheVariants.{TooLong, Sheet, Image}

-- an input has at most so many bytes
abbrev pub most_bytes : ℕ
most_bytes = 64520

-- the sheet ends behind as many rows as it counts, or with the input if that is shorter
abbrev pub sheet_end : List ℕ → ℕ
sheet_end bs = min (4 + 8 * row_count bs) (length bs)

-- the number that each refusal has in a report, and the row or the event that is refused

abbrev pub input_refusal_number : InputRefusal → ℕ
input_refusal_number TooLong = 13
input_refusal_number (Sheet refusal) = inspect_refusal_number refusal
input_refusal_number (Image refusal) = image_refusal_number refusal

abbrev pub input_carried : InputRefusal → Option ℕ
input_carried TooLong = None
input_carried (Sheet (Layout row)) = Some row
input_carried (Image (Broken event)) = Some event

-- refused if it is too long, else if its sheet is refused, else if its image is

abbrev pub image_admitted : Result (Unit {0}) ImageRefusal → Result (Unit {0}) InputRefusal
image_admitted (Ok u) = Ok u
image_admitted (Err refusal) = Err (Image refusal)

abbrev pub sheet_admitted : Result (Unit {0}) InspectRefusal → (other : Result (Unit {0}) InputRefusal) → Result (Unit {0}) InputRefusal
sheet_admitted (Ok u) other = other
sheet_admitted (Err refusal) other = Err (Sheet refusal)

abbrev pub input_answer : (size : ℕ) → Result (Unit {0}) InspectRefusal → Result (Unit {0}) ImageRefusal → Result (Unit {0}) InputRefusal
input_answer size inspected checked = cond (nat_lt most_bytes size) (Err TooLong) (sheet_admitted inspected (image_admitted checked))
