-- A tree of one or two parts, from what is answered of each.
use Rattle.std.proofs.Common.{◌≡◌, ℕ, suc, ◌+◌, List, ◌∷◌, ◌++◌, length, get_or, sym, ap, ◌∙◌, ap₂, arith}
use Rattle.std.proofs.lemmas.List.{length-append}
use Rattle.rules.specs.declared.row.Row.{Row}
use Rattle.rules.specs.declared.row.Row.TheVariants.{Not}
use Rattle.rules.specs.Trees.{Term, Test, Begins, term_rows, test_rows}
use Rattle.rules.proofs.Heads.{Parts, TermBy, TestBy, term_by, test_by}
use Rattle.judging.specs.Answers.{PartAt}

behind : (at mid next : ℕ) (xs ys : List Row) → mid ≡ at + 1 + length xs → next ≡ mid + length ys → next ≡ at + suc (length (xs ++ ys))
behind at mid next xs ys h k = simp length-append (omega arith)

-- what the row d that was read at a row makes of the term, or of the test, that stands there
module _ {all : List Row} {at : ℕ} {read d : Row} (looked : read ≡ get_or all at Not) (is : read ≡ d) where
  pub term_here : (t : Term) → Begins all at (term_rows t) → TermBy all at d t
  term_here t b = term_by all at Not d (sym looked ∙ is) t b

  pub test_here : (t : Test) → Begins all at (test_rows t) → TestBy all at d t
  test_here t b = test_by all at Not d (sym looked ∙ is) t b

-- parts with the rows f of which `said` speaks
module _ {A R : Type 0} (f : A → List Row) (said : ℕ → A → R) (all : List Row) where
  -- the answer for whatever part stands at a row
  abbrev pub Answers : ℕ → R × ℕ → Type 0
  Answers at r = (t : A) → Begins all at (f t) → PartAt f said at t r

  module _ {C : Type 0} (at : ℕ) (build : A → A → C) (whole : C) (p : Parts f f all at build whole) (x : R × ℕ) (first : Answers (at + 1) x) where
    -- the second part begins where the first one ended
    pub second_part : (t : A) × Begins all x.1 (f t)
    second_part = (p.second, rw (first p.first p.left).next p.right)

    -- a tree with the rows g, of which `told` speaks, by the row d with these two parts
    pub joined_parts : {S : Type 0} (g : C → List Row) (told : ℕ → C → S) (d : Row) (make : R → R → S) →
        ((t u : A) → g (build t u) ≡ d ∷ (f t ++ f u)) → ((t u : A) → told at (build t u) ≡ make (said (at + 1) t) (said (at + 1 + length (f t)) u)) →
        (y : R × ℕ) → Answers x.1 y → (r : S) → r ≡ make x.0 y.0 → PartAt g told at whole (r, y.1)
    unfolding second_part
    joined_parts g told d make spelt means y then r e =
        let h = first p.first p.left in
        let k = then p.second second_part.1 in
        rw p.is record {
          value = e ∙ ap₂ make h.value (k.value ∙ ap (λ r. said r p.second) h.next) ∙ sym (means p.first p.second);
          next = rw (spelt p.first p.second) (behind at x.1 y.1 (f p.first) (f p.second) h.next k.next);
        }
