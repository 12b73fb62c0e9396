-- A value and a body at their places.
use Rattle.std.proofs.Common.{◌≡◌, ℕ, suc, ◌+◌, ◌-◌, ◌^◌, ◌<◌, Bool, true, false, ◌&&◌, eqb, ltb, List, get_or, pos, negsuc, sym, refl, ap, ◌∙◌, subst, zero-add, arith, w32, to_z}
use mir.Val.{sel}
use Rattle.std.proofs.Math.Bool.{and-true}
use Rattle.std.proofs.lemmas.List.{ext_get_or}
use Rattle.std.proofs.lemmas.List.FromFn.{get_or-range_with_len, get_or-map-range_with_len}
use Rattle.std.proofs.lemmas.List.Sums.{AllPass-from_list_all, list_all-from_AllPass}
use Rattle.std.proofs.lemmas.Bool.{and_parts, and_from, or_left, or_right, cond-true, cond-false, cond_both, eq-eqb, eqb-true}
use Rattle.std.specs.List.{list_all, range_with_len}
use Rattle.logs.specs.declared.event.Event.{Event}
use Rattle.logs.specs.declared.event.Value.{Value}
use Rattle.logs.specs.declared.event.Value.TheVariants.{Unread, Read}
use Rattle.logs.specs.Events.{empty, slot_count}
use Rattle.logs.specs.Image.{byte, two, four, signed, slot_place, slot_at, slot_laid, slots_at, body_laid}
use Rattle.logs.specs.Exact.{HoldsValue, HoldsBody}

zero_from : (n : ℕ) → to_z w32 n ≡ pos 0 → n ≡ 0
zero_from n e = go (ltb n (2 ^ 31)) e
  where
    go : (b : Bool) → sel b (pos n) (negsuc (2 ^ 32 - suc n)) ≡ pos 0 → n ≡ 0
    go true k = cc
    go false k = absurd cc

module _ (bs : List ℕ) (p : ℕ) where
  pub value_read : (v : Value) → HoldsValue bs p v → (slot_at bs p ≡ v) × (slot_laid bs p ≡ true)
  value_read (Unread c) h =
      let other : eqb (byte bs (p + 1)) 1 ≡ false = ap (λ s. eqb s 1) h.state in
      let still : eqb (byte bs (p + 1)) 0 ≡ true = ap (λ s. eqb s 0) h.state in (
        cond-false _ _ _ other ∙ ap Unread h.code,
        or_right _ _ (and_from _ _ still (eq-eqb _ _ (zero_from (four bs (p + 2)) h.number))),
      )
  value_read (Read c x) h =
      let once : eqb (byte bs (p + 1)) 1 ≡ true = ap (λ s. eqb s 1) h.state in (
        cond-true _ _ _ once ∙ (ap (λ k. Read k (signed bs (p + 2))) h.code ∙ ap (Read c) h.number),
        or_left _ _ once,
      )

  pub value_held : slot_laid bs p ≡ true → HoldsValue bs p (slot_at bs p)
  value_held h =
      let once : eqb (byte bs (p + 1)) 1 ≡ true → HoldsValue bs p (Read (byte bs p) (signed bs (p + 2))) = λ e. record { code = refl; state = eqb-true _ _ e; number = refl } in
      let other : eqb (byte bs (p + 1)) 1 ≡ false → HoldsValue bs p (Unread (byte bs p)) =
      λ e.
      let still : (eqb (byte bs (p + 1)) 0 && eqb (four bs (p + 2)) 0) ≡ true = cc in
      let a = and_parts _ _ still in
      record { code = refl; state = eqb-true _ _ a.0; number = ap (to_z w32) (eqb-true _ _ a.1) }
      in
      cond_both _ _ _ (HoldsValue bs p) once other

nth_slot : (k d : ℕ) → k < slot_count → get_or (range_with_len 0 slot_count) k d ≡ k
nth_slot k d h = get_or-range_with_len 0 slot_count k d h ∙ zero-add k

module _ (bs : List ℕ) (b : ℕ) where
  pub body_laid-all : body_laid bs b ≡ (eqb (two bs (b + 2)) 0 && list_all (λ k. slot_laid bs (slot_place b k)) (range_with_len 0 slot_count))
  body_laid-all =
      let s : ℕ → Bool = λ k. slot_laid bs (slot_place b k) in
      ap (λ t. eqb (two bs (b + 2)) 0 && (s 0 && (s 1 && (s 2 && t)))) (sym (and-true (s 3)))

  slot_there : (k : ℕ) → k < slot_count → get_or (slots_at bs b) k empty ≡ slot_at bs (slot_place b k)
  slot_there k h = get_or-map-range_with_len (λ j. slot_at bs (slot_place b j)) 0 slot_count k k empty h (omega arith)

  pub body_read : (e : Event) → HoldsBody bs b e → (slots_at bs b ≡ e.slots) × (body_laid bs b ≡ true)
  body_read e h =
      let read : (k : ℕ) (l : k < slot_count) → _ = λ k l. value_read bs (slot_place b k) _ (h.slots k l) in
      let each = list_all-from_AllPass (λ k. slot_laid bs (slot_place b k)) (range_with_len 0 slot_count) (λ k d l. subst (λ j. slot_laid bs (slot_place b j) ≡ true) (sym (nth_slot k d l)) (read k l).1) in (
        ext_get_or empty (slots_at bs b) e.slots (sym h.wide) (λ k l. slot_there k l ∙ (read k l).0),
        body_laid-all ∙ and_from _ _ (eq-eqb _ _ h.padding) each,
      )

  pub body_held : (t : ℕ) → body_laid bs b ≡ true → HoldsBody bs b (record { time = t; name = byte bs b; count = byte bs (b + 1); slots = slots_at bs b })
  body_held t h =
      let laid = and_parts _ _ (sym body_laid-all ∙ h) in
      let each = AllPass-from_list_all (λ k. slot_laid bs (slot_place b k)) (range_with_len 0 slot_count) laid.1 in
      record {
        name = refl;
        count = refl;
        padding = eqb-true _ _ laid.0;
        wide = refl;
        slots = λ k l.
            subst (HoldsValue bs (slot_place b k)) (sym (slot_there k l)) (value_held bs (slot_place b k) (subst (λ j. slot_laid bs (slot_place b j) ≡ true) (nth_slot k 0 l) (each k 0 l)));
      }
