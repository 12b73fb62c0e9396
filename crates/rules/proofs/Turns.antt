-- A part read at a row, from what is read of its own parts.
use Rattle.std.proofs.Common.{◌≡◌, ℕ, ◌+◌, ◌<◌, List, [], ◌∷◌, ◌++◌, length, drop, Some, None, Ok, Err, Option, Result, sym, refl, ap, ◌∙◌, append_assoc, arith}
use denote.Ref.{Bor}
use Rattle.std.specs.List.{slice_get}
use Rattle.std.specs.Slice.{IsItemAt}
use Rattle.std.proofs.lemmas.Grind.{common_steps}
use Rattle.std.proofs.lemmas.List.{drop_more}
use Rattle.std.proofs.lemmas.Option.{slice_get_within, get_or_from_slice_get, gets}
use Rattle.rules.specs.declared.read.Followed.{Followed}
use Rattle.rules.specs.declared.read.Followed.TheVariants.{Nothing, One, Two}
use Rattle.rules.specs.declared.read.Want.{Want}
use Rattle.rules.specs.declared.row.Row.{Row}
use Rattle.rules.specs.declared.sheet.InspectRefusal.{InspectRefusal}
use Rattle.rules.specs.declared.sheet.InspectRefusal.TheVariants.{Layout}
use Rattle.rules.specs.Wanted.{Wanted, followed, first_bad}
use Rattle.rules.specs.Reading.{ReadAt, asked, shown}
use Rattle.rules.proofs.Grown.{grown}

looked_up : (rows : List Row) (at : ℕ) (found : Option (Bor Row)) (row : Bor Row) → IsItemAt rows at found → found ≡ Some row → slice_get rows at ≡ Some row.now
looked_up rows at None row is e = absurd (cc)
looked_up rows at (Some x) row is e = grind (arith, common_steps, gets)

module _ (rows : List Row) (at : ℕ) (w : Wanted) where
  -- what comes of a row, by what it wants
  onwards : Option (List Wanted) → List Wanted → Option ℕ
  onwards o ws = elim o [ None ↦ Some at | Some more ↦ first_bad (at + 1) (drop (at + 1) rows) (more ++ ws) ]

  -- the row that is found there, and what it wants
  module _ (found : Option (Bor Row)) (row : Bor Row) (lookup : IsItemAt rows at found) (got : found ≡ Some row) (behind : Option Followed) (says : shown behind ≡ followed w row.now) where
    within : at < length rows
    within = slice_get_within rows at row.now (looked_up rows at found row lookup got)

    opened : drop at rows ≡ row.now ∷ drop (at + 1) rows
    opened = drop_more rows at row.now within ∙ ap (λ r. r ∷ drop (at + 1) rows) (get_or_from_slice_get rows at row.now row.now (looked_up rows at found row lookup got))

    module _ (kind : Followed) (is : behind ≡ Some kind) where
      wanted : shown (Some kind) ≡ followed w row.now
      wanted = ap shown (sym is) ∙ says

      turn : (ws : List Wanted) → first_bad at (drop at rows) (w ∷ ws) ≡ onwards (shown (Some kind)) ws
      unfolding onwards
      turn ws = ap (λ rs. first_bad at rs (w ∷ ws)) opened ∙ ap (λ p. onwards p ws) (sym wanted)

    pub is_leaf : behind ≡ Some Nothing → ReadAt rows at w (Ok (at + 1))
    unfolding onwards
    is_leaf is = record {
      same = turn Nothing is;
      onward = λ next e.
          let here : next ≡ at + 1 = cc in
          let h = within in
          rw here (record { front = row.now ∷ []; fits = grown w row.now _ (wanted Nothing is); split = opened; forward = omega arith; within = omega arith });
    }

    pub has_one : (a : Want) (r : Result ℕ InspectRefusal) → behind ≡ Some (One a) → ReadAt rows (at + 1) (asked a) r → ReadAt rows at w r
    unfolding onwards
    has_one a r is first = record {
      same = λ ws. turn (One a) is ws ∙ first.same ws;
      onward = λ next e.
          let k = first.onward next e in
          record {
            front = row.now ∷ k.front;
            fits = grown w row.now _ (wanted (One a) is) k.front k.fits;
            split = opened ∙ ap (λ rs. row.now ∷ rs) k.split;
            forward = let f = k.forward in omega arith;
            within = k.within;
          };
    }

    pub first_refused : (a b : Want) (e : InspectRefusal) → behind ≡ Some (Two a b) → ReadAt rows (at + 1) (asked a) (Err e) → ReadAt rows at w (Err e)
    unfolding onwards
    first_refused a b (Layout bad) is first = record { same = λ ws. turn (Two a b) is ws ∙ first.same (asked b ∷ ws); onward = λ next e. absurd (cc) }

    pub has_two : (a b : Want) (mid : ℕ) (r : Result ℕ InspectRefusal) → behind ≡ Some (Two a b) → ReadAt rows (at + 1) (asked a) (Ok mid) → ReadAt rows mid (asked b) r → ReadAt rows at w r
    unfolding onwards
    has_two a b mid r is first second = record {
      same = λ ws. turn (Two a b) is ws ∙ (first.same (asked b ∷ ws) ∙ second.same ws);
      onward = λ next e.
          let k = first.onward mid refl in
          let l = second.onward next e in
          record {
            front = row.now ∷ (k.front ++ l.front);
            fits = grown w row.now _ (wanted (Two a b) is) k.front l.front k.fits l.fits;
            split = opened ∙ ap (λ rs. row.now ∷ rs) (k.split ∙ (ap (λ rs. k.front ++ rs) l.split ∙ sym (append_assoc k.front l.front (drop next rows))));
            forward = let f = k.forward in let g = l.forward in omega arith;
            within = l.within;
          };
    }
