-- An image that is taken, or refused, as a log.
use Rattle.std.proofs.Common.{◌≡◌, ℕ, ◌+◌, ◌*◌, ◌<◌, ◌≤◌, List, length, Some, None, Option, sym, refl, ap, ◌∙◌, arith}
use Rattle.std.specs.List.{slice_get}
use Rattle.std.specs.Result.{result_unwrap_or}
use Rattle.std.proofs.lemmas.Option.{slice_get-get_or}
use Rattle.logs.specs.Events.{event_at, blank}
use Rattle.logs.specs.Image.{event_count, event_width, held_at, image_broken, events_in, unless_broken, image_events}
use Rattle.logs.specs.ImageLaws.{length_first, event_first}
use Rattle.logs.proofs.Sized.{unbroken_sizes}
use Rattle.logs.specs.Taken.{taken_unless, image_taken}

module _ (bs : List ℕ) where
  pub events_taken : image_broken bs ≡ None → image_events bs ≡ events_in bs
  events_taken e = ap (λ o. unless_broken o (events_in bs)) e

  pub length-image_events : length (image_events bs) ≡ result_unwrap_or (image_taken bs) 0
  length-image_events = go (image_broken bs)
    where
      go : (o : Option ℕ) → length (unless_broken o (events_in bs)) ≡ result_unwrap_or (taken_unless o (event_count bs)) 0
      go None = length_first bs (event_count bs) (event_count bs)
      go (Some event) = refl

  some_taken : (o : Option ℕ) → 0 < length (unless_broken o (events_in bs)) → o ≡ None
  some_taken None h = refl
  some_taken (Some event) h = absurd (omega arith)

  -- where there is an event, the bytes are as many as the count says, and it is what they hold
  module _ (count place : ℕ) (counted : count ≡ length (image_events bs)) (less : place < count) where
    taken : image_broken bs ≡ None
    taken = some_taken (image_broken bs) (omega arith)

    all : count ≡ event_count bs
    all = counted ∙ (ap length (events_taken taken) ∙ length_first bs (event_count bs) (event_count bs))

    pub whole_at : length bs ≡ 4 + event_width * count
    whole_at = (unbroken_sizes bs taken).whole ∙ ap (λ n. 4 + event_width * n) (sym all)

    pub event_there : slice_get (image_events bs) place ≡ Some (held_at bs count place)
    event_there =
        let within : place < length (image_events bs) = omega (arith, counted) in
        slice_get-get_or (image_events bs) place blank within
        ∙ (ap (λ es. Some (event_at es place)) (events_taken taken) ∙ (ap Some (event_first bs (event_count bs) (event_count bs) place (omega (arith, all))) ∙ ap (λ n. Some (held_at bs n place)) (sym all)))

  pub length-image_events-le : length (image_events bs) ≤ event_count bs
  length-image_events-le = go (image_broken bs)
    where
      go : (o : Option ℕ) → length (unless_broken o (events_in bs)) ≤ event_count bs
      go None = omega (arith, length_first bs (event_count bs) (event_count bs))
      go (Some event) = omega arith

pub ruleset taken_length = (length-image_events)
