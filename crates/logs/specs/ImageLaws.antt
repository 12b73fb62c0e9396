-- What an image means is a lawful log, whatever its bytes.
use Rattle.std.specs.Prelude.{◌≡◌, ℕ, zero, suc, ◌+◌, ◌<◌, ◌≤◌, Bool, true, false, cond, List, [], ◌∷◌, length, Some, None, Option, refl}
use Rattle.std.proofs.Common.{ap, subst, ◌∙◌, add-one, arith, ⊎_elim}
use Rattle.std.proofs.lemmas.List.FromFn.{length-map-range_with_len, get_or-map-range_with_len}
use Rattle.std.proofs.lemmas.Bool.{and_parts, and_from, leb-true, cases_eq}
use Rattle.logs.specs.declared.event.Event.{Event}
use Rattle.logs.specs.Events.{in_bounds, event_at, blank}
use Rattle.logs.specs.Lawful.{Lawful, NeverFalls, all_in_bounds, time_at, most_events}
use Rattle.logs.specs.Image.{sized, event_count, body_place, body_laid, time_held, former_time, held_at, good_at, lowest_bad, wrong_sizes, image_broken, first_events, events_in, unless_broken, image_events}

-- what it is for an event to be good
pub record Good (bs : List ℕ) (n i : ℕ) : Type 0 where
  pub laid : body_laid bs (body_place n i) ≡ true
  pub inside : in_bounds (held_at bs n i) ≡ true
  pub later : former_time bs i ≤ time_held bs i

pub good_parts : (bs : List ℕ) (n i : ℕ) → good_at bs n i ≡ true → Good bs n i
good_parts bs n i h =
    let a = and_parts _ _ h in
    let b = and_parts _ _ a.1 in
    record { laid = a.0; inside = b.0; later = leb-true _ _ b.1 }

pub all_inside : (es : List Event) → ((i : ℕ) → i < length es → in_bounds (event_at es i) ≡ true) → all_in_bounds es ≡ true
all_inside [] h = refl
all_inside (e ∷ es) h = and_from _ _ (h 0 (omega arith)) (all_inside es (λ i l. h (suc i) (omega arith)))

pub cond_none : (b : Bool) (o : Option ℕ) (i : ℕ) → cond b o (Some i) ≡ None → (b ≡ true) × (o ≡ None)
cond_none true o i e = (refl, e)
cond_none false o i e = absurd cc

module _ (bs : List ℕ) where
  -- where no event is bad, each is good
  lowest_none : (n i left : ℕ) → lowest_bad bs n i left ≡ None → (j : ℕ) → i ≤ j → j < i + left → good_at bs n j ≡ true
  lowest_none n i zero e j low high = absurd (omega arith)
  lowest_none n i (suc left) e j low high =
      let here = cond_none (good_at bs n i) (lowest_bad bs n (i + 1) left) i e in
      ⊎_elim (λ (same : i ≡ j). subst (λ k. good_at bs n k ≡ true) same here.0) (λ (other : i ≡ j → ⊥). lowest_none n (i + 1) left here.1 j (omega arith) (omega arith)) (cases_eq i j)

  pub unbroken_parts : image_broken bs ≡ None → (sized bs ≡ true) × (lowest_bad bs (event_count bs) 0 (event_count bs) ≡ None)
  unbroken_parts e = cond_none (sized bs) (lowest_bad bs (event_count bs) 0 (event_count bs)) wrong_sizes e

  pub unbroken_good : image_broken bs ≡ None → (i : ℕ) → i < event_count bs → Good bs (event_count bs) i
  unbroken_good e i h = good_parts bs (event_count bs) i (lowest_none (event_count bs) 0 (event_count bs) (unbroken_parts e).1 i (omega arith) (omega arith))

  pub former_next : (i : ℕ) → former_time bs (i + 1) ≡ time_held bs i
  former_next i = ap (former_time bs) (add-one i)

  pub length_first : (n m : ℕ) → length (first_events bs n m) ≡ m
  length_first n m = length-map-range_with_len (held_at bs n) 0 m

  pub event_first : (n m i : ℕ) → i < m → event_at (first_events bs n m) i ≡ held_at bs n i
  event_first n m i h = get_or-map-range_with_len (held_at bs n) 0 m i i blank h (omega arith)

  -- the first m events where each is good
  module _ (n m : ℕ) (good : (i : ℕ) → i < m → Good bs n i) where
    pub first_ordered : NeverFalls (first_events bs n m)
    first_ordered k h =
        let less : k + 1 < m = omega (arith, length_first n m) in
        let this : time_at (first_events bs n m) k ≡ time_held bs k = ap (λ e. e.time) (event_first n m k (omega arith)) in
        let next : time_at (first_events bs n m) (k + 1) ≡ time_held bs (k + 1) = ap (λ e. e.time) (event_first n m (k + 1) less) in
        omega (arith, former_next k, (good (k + 1) less).later)

    pub first_inside : all_in_bounds (first_events bs n m) ≡ true
    first_inside = all_inside (first_events bs n m) (λ i h. let less : i < m = omega (arith, length_first n m) in ap in_bounds (event_first n m i less) ∙ (good i less).inside)

  pub image_lawful : length (image_events bs) ≤ most_events → Lawful (image_events bs) (length (image_events bs))
  image_lawful few = go (image_broken bs) refl few
    where
      go : (o : Option ℕ) → image_broken bs ≡ o → length (unless_broken o (events_in bs)) ≤ most_events → Lawful (unless_broken o (events_in bs)) (length (unless_broken o (events_in bs)))
      go None e most = record {
        ordered = first_ordered (event_count bs) (event_count bs) (unbroken_good e);
        within = omega arith;
        small = most;
        inside = first_inside (event_count bs) (event_count bs) (unbroken_good e);
      }
      go (Some i) e most = record { ordered = λ k h. absurd (omega arith); within = omega arith; small = most; inside = refl }
