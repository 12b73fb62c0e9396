-- An input of which nothing is refused.
use Rattle.std.proofs.Common.{◌≡◌, ℕ, Bool, true, false, cond, ltb, List, length, None, Some, Ok, Err, Option, Result, sym, refl, ap, ap₂, ◌∙◌}
use Rattle.logs.specs.declared.image.ImageRefusal.{ImageRefusal}
use Rattle.logs.specs.Checked.{image_answer}
use Rattle.logs.specs.Image.{image_events}
use Rattle.rules.specs.declared.sheet.InspectRefusal.{InspectRefusal}
use Rattle.rules.specs.Layout.{broken}
use Rattle.rules.specs.Sheets.{Held, Inspected, answer_to, held_after}
use Rattle.meaning.specs.declared.verdict.Verdict.{Verdict}
use Rattle.reports.specs.declared.input.InputRefusal.{InputRefusal}
use Rattle.reports.specs.Input.{input_answer, most_bytes}
use Rattle.reports.specs.Judged.{verdicts_of}
use Rattle.reports.specs.Reports.{sheet_bytes, image_bytes, admitted, sheet_in, events_in, unless_refused, report_answer}

either_refused : (long : Bool) (x y : InputRefusal) → ◌≡◌ {A = Result (Unit {0}) InputRefusal} (cond long (Err x) (Err y)) (Ok tt) → ⊥
either_refused true x y e = cc
either_refused false x y e = cc

-- then the sheet is taken
taken : (size : ℕ) (o : Option ℕ) (b : Result (Unit {0}) ImageRefusal) → input_answer size (answer_to o) b ≡ Ok tt → o ≡ None
taken size None b e = refl
taken size (Some row) b e = absurd (either_refused (ltb most_bytes size) _ _ e)

module _ (bs : List ℕ) (sheet image : List ℕ) (sheet_is : sheet ≡ sheet_bytes bs) (image_is : image ≡ image_bytes bs) where
  module _ (former after : Held) (a : Result (Unit {0}) InspectRefusal) (b : Result (Unit {0}) ImageRefusal) (inspected : Inspected sheet former after a) (checked : b ≡ image_answer image) where
    pub admitted_is : input_answer (length bs) a b ≡ admitted bs
    admitted_is = ap₂ (input_answer (length bs)) (inspected.answer ∙ ap (λ l. answer_to (broken l)) sheet_is) (checked ∙ ap image_answer image_is)

    pub answered : (vs : List Verdict) → input_answer (length bs) a b ≡ Ok tt → vs ≡ verdicts_of (image_events image) after → Ok vs ≡ report_answer bs
    answered vs ok e =
        let quiet : admitted bs ≡ Ok tt = sym admitted_is ∙ ok in
        let held_is : after ≡ sheet_in bs =
        inspected.sheet
        ∙ ap (λ l. held_after (broken l) l former) sheet_is
        ∙ ap (λ o. held_after o (sheet_bytes bs) former) (taken (length bs) (broken (sheet_bytes bs)) (image_answer (image_bytes bs)) quiet) in
        ap (λ l. Ok l) (e ∙ ap₂ (λ i s. verdicts_of (image_events i) s) image_is held_is)
        ∙ ap (λ o. unless_refused o (verdicts_of (events_in bs) (sheet_in bs))) (sym quiet)
