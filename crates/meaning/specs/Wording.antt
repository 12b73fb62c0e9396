-- Scopes in the words of delimiters that are possible or certain.
use Rattle.std.specs.Prelude.{◌≡◌, ℕ, ◌+◌, ◌<◌, ◌≤◌, ◌≢◌, ◌↔◌, List, length}
use Rattle.logs.specs.declared.event.Event.{Event}
use Rattle.logs.specs.Events.{event_at}
use Rattle.logs.specs.Lawful.{time_at}
use Rattle.rules.specs.declared.row.Side.{Side}
use Rattle.rules.specs.declared.row.Pick.{Pick}
use Rattle.rules.specs.declared.row.Pick.TheVariants.{First, Last, Each}
use Rattle.rules.specs.Trees.{Test, Property, scope, test_rows}
use Rattle.meaning.specs.declared.verdict.Variable.TheVariants as var
use Rattle.meaning.specs.declared.verdict.Verdict.{Verdict}
use Rattle.meaning.specs.declared.verdict.Verdict.TheVariants.{Holds, Fails}
use Rattle.meaning.specs.Terms.{Variables, ◌⊕◌, asked}
use Rattle.meaning.specs.Windows.{Window, In, window}
use Rattle.meaning.specs.Verdicts.{judged}

-- For first, no test before i is yes, so that i is not past the first yes; for last, none behind it.
abbrev pub NoYes : Pick → Window → (ℕ → Verdict) → ℕ → Type 0
NoYes Each w f i = Unit {0}
NoYes First w f i = (j : ℕ) → w.0 ≤ j → j < i → f j ≢ Holds
NoYes Last w f i = (j : ℕ) → i < j → j < w.1 → f j ≢ Holds

-- A possible delimiter is a place of the window with a test other than no: for first up to the first yes,
-- for last from the last yes on, the yes included, and all of them if no test is yes.
abbrev pub Possible : Pick → Window → (ℕ → Verdict) → ℕ → Type 0
Possible o w f i = In w i × (f i ≢ Fails) × NoYes o w f i

-- for first and last, no other delimiter is possible
abbrev pub Only : Pick → Window → (ℕ → Verdict) → ℕ → Type 0
Only Each w f i = Unit {0}
Only First w f i = (j : ℕ) → Possible First w f j → j ≡ i
Only Last w f i = (j : ℕ) → Possible Last w f j → j ≡ i

-- A possible delimiter is certain if its test is yes and, for first and last, it is the only one.
abbrev pub Certain : Pick → Window → (ℕ → Verdict) → ℕ → Type 0
Certain o w f i = Possible o w f i × (f i ≡ Holds) × Only o w f i

-- A scope holds exactly if its property holds at each possible delimiter, and fails exactly if it fails at a certain one.
abbrev pub ScopeWording : Type 0
ScopeWording =
    (es : List Event) (η : Variables) (w : Window) (r : ℕ) (s : Side) (o : Pick) (a d : ℕ) (t : Test) (p : Property) →
    let f : ℕ → Verdict = asked es η (r + 1) a t in
    let P : ℕ → Verdict = λ i. judged es (η ⊕ var.Event (event_at es i)) (window s (time_at es) d i w) (r + 1 + length (test_rows t)) p in
    let v : Verdict = judged es η w r (scope s o a d t p) in
    ((v ≡ Holds) ↔ ((i : ℕ) → Possible o w f i → P i ≡ Holds)) × ((v ≡ Fails) ↔ ((i : ℕ) × Certain o w f i × (P i ≡ Fails)))

pub record Wording : Type 0 where
  pub scopes : ScopeWording
