-- The search for the lowest bad event, step by step.
use Rattle.std.proofs.Common.{◌≡◌, ℕ, suc, ◌+◌, ◌-◌, ◌<◌, true, false, cond, List, Some, ap, ◌∙◌, arith}
use Rattle.std.proofs.lemmas.Bool.{cond-true, cond-false}
use Rattle.logs.specs.Image.{good_at, lowest_bad}

module _ (bs : List ℕ) (n i : ℕ) (less : i < n) where
  step : lowest_bad bs n i (n - i) ≡ cond (good_at bs n i) (lowest_bad bs n (i + 1) (n - (i + 1))) (Some i)
  step = let more : n - i ≡ suc (n - (i + 1)) = omega arith in ap (lowest_bad bs n i) more

  pub lowest_here : good_at bs n i ≡ false → lowest_bad bs n i (n - i) ≡ Some i
  lowest_here g = step ∙ cond-false _ _ _ g

  pub lowest_later : good_at bs n i ≡ true → lowest_bad bs n i (n - i) ≡ lowest_bad bs n (i + 1) (n - (i + 1))
  lowest_later g = step ∙ cond-true _ _ _ g
