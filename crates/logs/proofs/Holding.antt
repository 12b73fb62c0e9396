-- An image is taken exactly if its bytes hold the events of a log.
use Rattle.std.proofs.Common.{◌≡◌, ℕ, zero, suc, ◌+◌, ◌*◌, ◌<◌, ◌≤◌, true, false, List, [], ◌∷◌, length, Some, None, sym, refl, ap, ◌∙◌, subst, ⊎_elim, add-one, arith}
use Rattle.std.proofs.lemmas.List.{ext_get_or}
use Rattle.std.proofs.lemmas.Bool.{both_ways, cond_both, false_from_ne_true, cases_eq, and_parts, and_from, cond-true, cond-false, le-leb}
use Rattle.logs.specs.declared.event.Event.{Event}
use Rattle.logs.specs.declared.event.Value.{Value}
use Rattle.logs.specs.Events.{blank, in_bounds, event_at}
use Rattle.logs.specs.Lawful.{all_in_bounds, time_at}
use Rattle.logs.specs.Image.{Sizes, sized, event_count, body_place, time_held, former_time, held_at, good_at, lowest_bad, wrong_sizes, image_broken, first_events, events_in, image_events}
use Rattle.logs.specs.ImageLaws.{unbroken_good, Good, good_parts, length_first, event_first, first_ordered, first_inside}
use Rattle.logs.specs.Exact.{HoldsBody, HoldsEvents, Holds, InOrder, Begins, Lowest, Exact}
use Rattle.logs.proofs.Bodies.{body_read, body_held}
use Rattle.logs.proofs.Sized.{sizes_from, sized_from, unbroken_sizes}
use Rattle.logs.proofs.Taken.{events_taken}

event_same : (t n c : ℕ) (vs : List Value) (e : Event) → t ≡ e.time → n ≡ e.name → c ≡ e.count → vs ≡ e.slots → ◌≡◌ {A = Event} (record { time = t; name = n; count = c; slots = vs }) e
event_same t n c vs e time_is name_is count_is slots_is = rw (time_is, name_is, count_is, slots_is)

inside_at : (es : List Event) → all_in_bounds es ≡ true → (i : ℕ) → i < length es → in_bounds (event_at es i) ≡ true
inside_at [] h i l = absurd (omega arith)
inside_at (e ∷ es) h zero l = (and_parts (in_bounds e) (all_in_bounds es) h).0
inside_at (e ∷ es) h (suc i) l = inside_at es (and_parts (in_bounds e) (all_in_bounds es) h).1 i (omega arith)

-- no event is bad, or one is, and none before it
all_good : (bs : List ℕ) (n i left : ℕ) → ((j : ℕ) → i ≤ j → j < i + left → good_at bs n j ≡ true) → lowest_bad bs n i left ≡ None
all_good bs n i zero h = refl
all_good bs n i (suc left) h = cond-true _ _ _ (h i (omega arith) (omega arith)) ∙ all_good bs n (i + 1) left (λ j low less. h j (omega arith) (omega arith))

record FirstBad (bs : List ℕ) (n i left k : ℕ) : Type 0 where
  from : i ≤ k
  below : k < i + left
  before : (j : ℕ) → i ≤ j → j < k → good_at bs n j ≡ true
  bad : good_at bs n k ≡ false

one_bad : (bs : List ℕ) (n i left k : ℕ) → lowest_bad bs n i left ≡ Some k → FirstBad bs n i left k
one_bad bs n i zero k e = absurd cc
one_bad bs n i (suc left) k e =
    let later : good_at bs n i ≡ true → lowest_bad bs n (i + 1) left ≡ Some k → FirstBad bs n i (suc left) k =
    λ g h.
    let f = one_bad bs n (i + 1) left k h in
    let before : (j : ℕ) → i ≤ j → j < k → good_at bs n j ≡ true =
    λ j low less. ⊎_elim (λ (same : i ≡ j). subst (λ m. good_at bs n m ≡ true) same g) (λ (other : i ≡ j → ⊥). f.before j (omega arith) less) (cases_eq i j)
    in
    record { from = omega (arith, f.from); below = omega (arith, f.below); before = before; bad = f.bad }
    in
    let here : good_at bs n i ≡ false → Some i ≡ Some k → FirstBad bs n i (suc left) k =
    λ g h.
    let same : i ≡ k = cc in
    record { from = omega arith; below = omega arith; before = λ j low less. absurd (omega arith); bad = subst (λ m. good_at bs n m ≡ false) same g }
    in
    cond_both _ _ _ (λ o. o ≡ Some k → FirstBad bs n i (suc left) k) later here e

-- events of a log that the bytes hold first are good
module _ (bs : List ℕ) (n : ℕ) (es : List Event) (h : HoldsEvents bs n es) (o : InOrder es) where
  pub event_is : (i : ℕ) → i < length es → held_at bs n i ≡ event_at es i
  event_is i l =
      let b = h.bodies i l in
      event_same (time_held bs i) _ _ _ (event_at es i) (h.times i l) b.name b.count (body_read bs (body_place n i) (event_at es i) b).0

  later : (i : ℕ) → i < length es → former_time bs i ≤ time_held bs i
  later zero l = omega arith
  later (suc i) l =
      let next : time_at es i ≤ time_at es (suc i) = subst (λ k. time_at es i ≤ time_at es k) (add-one i) (o.ordered i (omega arith)) in
      omega (arith, h.times i (omega arith), h.times (suc i) l)

  pub good_at_lem : (i : ℕ) → i < length es → good_at bs n i ≡ true
  good_at_lem i l =
      and_from _ _ (body_read bs (body_place n i) (event_at es i) (h.bodies i l)).1
      (and_from _ _ (ap in_bounds (event_is i l) ∙ inside_at es o.inside i l) (le-leb _ _ (later i l)))

-- good events that come first are events of a log, which the bytes hold
module _ (bs : List ℕ) (n m : ℕ) (good : (i : ℕ) → i < m → Good bs n i) where
  pub first_held : HoldsEvents bs n (first_events bs n m)
  first_held = record {
    times = λ i l. sym (ap (λ e. e.time) (event_first bs n m i (omega (arith, length_first bs n m))));
    bodies = λ i l.
        let less : i < m = omega (arith, length_first bs n m) in
        subst (HoldsBody bs (body_place n i)) (sym (event_first bs n m i less)) (body_held bs (body_place n i) (time_held bs i) (good i less).laid);
  }

  pub first_in_order : InOrder (first_events bs n m)
  first_in_order = record { inside = first_inside bs n m good; ordered = first_ordered bs n m good }

  pub first_begins : n ≡ event_count bs → Begins bs m (first_events bs n m)
  first_begins e = record { long = length_first bs n m; held = subst (λ k. HoldsEvents bs k (first_events bs n m)) e first_held; in_order = first_in_order }

-- bytes that hold the events of a log are taken
module _ (bs : List ℕ) (es : List Event) (h : Holds bs es) (o : InOrder es) where
  held : HoldsEvents bs (event_count bs) es
  held = subst (λ n. HoldsEvents bs n es) (sym h.count) h.events

  unbroken : image_broken bs ≡ None
  unbroken =
      let whole : length bs ≡ 4 + 32 * event_count bs = omega (arith, h.whole, h.count) in
      cond-true _ _ _ (sized_from bs (record { head = omega arith; width = h.width; whole = whole }))
      ∙ all_good bs (event_count bs) 0 (event_count bs) (λ j low less. good_at_lem bs (event_count bs) es held o j (omega (arith, h.count)))

  means : image_events bs ≡ es
  means =
      let n = event_count bs in
      let long : length (events_in bs) ≡ length es = length_first bs n n ∙ h.count in
      events_taken bs unbroken
      ∙ ext_get_or blank (events_in bs) es long (λ i l. event_first bs n n i (omega (arith, length_first bs n n)) ∙ event_is bs n es held o i (omega (arith, long)))

-- what is taken holds the events of a log
module _ (bs : List ℕ) (e : image_broken bs ≡ None) where
  all_held : Holds bs (events_in bs)
  all_held =
      let n = event_count bs in
      let long = length_first bs n n in
      record {
        count = sym long;
        width = (unbroken_sizes bs e).width;
        whole = (unbroken_sizes bs e).whole ∙ ap (λ k. 4 + 32 * k) (sym long);
        events = subst (λ k. HoldsEvents bs k (events_in bs)) (sym long) (first_held bs n n (unbroken_good bs e));
      }

  only_logs : Holds bs (image_events bs) × InOrder (image_events bs)
  only_logs = (
    subst (Holds bs) (sym (events_taken bs e)) all_held,
    subst InOrder (sym (events_taken bs e)) (first_in_order bs (event_count bs) (event_count bs) (unbroken_good bs e)),
  )

-- what is refused is refused with the lowest bad event
lowest_refused : (bs : List ℕ) (i : ℕ) → Sizes bs → image_broken bs ≡ Some i → Lowest bs i
lowest_refused bs i s e =
    let n = event_count bs in
    let f = one_bad bs n 0 n i (sym (cond-true _ _ _ (sized_from bs s)) ∙ e) in
    record {
      within = omega (arith, f.below);
      before = (first_events bs n i, first_begins bs n i (λ j l. good_parts bs n j (f.before j (omega arith) l)) refl);
      bad = λ es b. both_ways (good_at bs n i) f.bad (good_at_lem bs n es b.held b.in_order i (omega (arith, b.long)));
    }

wrong_sizes_lem : (bs : List ℕ) → (Sizes bs → ⊥) → image_broken bs ≡ Some wrong_sizes
wrong_sizes_lem bs h = cond-false _ _ _ (false_from_ne_true (sized bs) (λ t. h (sizes_from bs t)))

pub exact_stands : Exact
exact_stands = record { taken = λ bs es h o. (unbroken bs es h o, means bs es h o); only = only_logs; refused = lowest_refused; wrong = wrong_sizes_lem }
