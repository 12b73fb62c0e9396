-- An event is bound for its test, and forgotten again.
use Rattle.std.proofs.Common.{◌≡◌, ℕ, Bool, true, false, cond, List, [], ◌∷◌, length, take, refl, ap, ◌∙◌, ap₂, arith}
use Rattle.std.proofs.lemmas.List.{take_at, take_all}
use Rattle.logs.specs.declared.event.Event.{Event}
use Rattle.logs.specs.Events.{event_at}
use Rattle.rules.specs.Trees.{Test}
use Rattle.meaning.specs.declared.verdict.Variable.{Variable}
use Rattle.meaning.specs.declared.verdict.Verdict.{Verdict}
use Rattle.meaning.specs.Terms.{Variables, ◌⊕◌, answer_for, asked}

-- the test asked of the event at a place
pub asked_is : (es : List Event) (η : Variables) (r a : ℕ) (t : Test) (i : ℕ) {e : Event} {θ : Variables} {v : Verdict} →
    e ≡ event_at es i → θ ≡ η → v ≡ answer_for e θ r a t i → v ≡ asked es η r a t i
asked_is es η r a t i here same answer = answer ∙ ap₂ (λ e θ. answer_for e θ r a t i) here same

pub forgotten : (η : Variables) (x : Variable) → take (length η) (η ⊕ x) ≡ η
forgotten η x = take_at η (x ∷ []) (length η) refl

forgotten_if : (η : Variables) (x : Variable) (b : Bool) → take (length η) (cond b (η ⊕ x) η) ≡ η
forgotten_if η x true = forgotten η x
forgotten_if η x false = take_all (length η) η (omega arith)

-- whether or not it was bound, once the list is cut to its former length
pub unbound : (η : Variables) (x : Variable) (b : Bool) {d : ℕ} {θ ζ ξ : Variables} → d ≡ length η → θ ≡ η → ζ ≡ cond b (θ ⊕ x) θ → ξ ≡ take d ζ → ξ ≡ η
unbound η x b deep same asked cut = cut ∙ ap₂ take deep (asked ∙ ap (λ θ. cond b (θ ⊕ x) θ) same) ∙ forgotten_if η x b
