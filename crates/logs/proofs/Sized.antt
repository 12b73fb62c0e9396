-- The sizes of an image, as a test and as facts; an image that is not broken has them.
use Rattle.std.proofs.Common.{◌≡◌, ℕ, ◌+◌, ◌*◌, true, List, length, None}
use Rattle.std.proofs.lemmas.Bool.{and_parts, and_from, leb-true, eqb-true, le-leb, eq-eqb}
use Rattle.logs.specs.Image.{Sizes, two, sized, event_count, body_width, image_broken}
use Rattle.logs.specs.ImageLaws.{unbroken_parts}

pub sizes_from : (bs : List ℕ) → sized bs ≡ true → Sizes bs
sizes_from bs h =
    let a = and_parts _ _ h in
    let b = and_parts _ _ a.1 in
    record { head = leb-true _ _ a.0; width = eqb-true _ _ b.0; whole = eqb-true _ _ b.1 }

pub unbroken_sizes : (bs : List ℕ) → image_broken bs ≡ None → Sizes bs
unbroken_sizes bs e = sizes_from bs (unbroken_parts bs e).0

pub sized_from : (bs : List ℕ) → Sizes bs → sized bs ≡ true
sized_from bs s =
    and_from _ _ (le-leb 4 (length bs) s.head) (and_from _ _ (eq-eqb (two bs 2) body_width s.width) (eq-eqb (length bs) (4 + 32 * event_count bs) s.whole))
