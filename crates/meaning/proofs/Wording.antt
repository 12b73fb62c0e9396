-- A scope holds if its property holds at each possible delimiter, and fails if it fails at a certain one.
use Rattle.std.proofs.Common.{◌≡◌, ℕ, ◌+◌, ◌<◌, ◌≤◌, ◌≢◌, ◌↔◌, ap, inl, inr, arith}
use Rattle.rules.specs.declared.row.Pick.{Pick}
use Rattle.rules.specs.declared.row.Pick.TheVariants.{First, Last, Each}
use Rattle.meaning.specs.declared.verdict.Origin.{Origin}
use Rattle.meaning.specs.declared.verdict.Verdict.{Verdict}
use Rattle.meaning.specs.declared.verdict.Verdict.TheVariants.{Holds, Fails}
use Rattle.meaning.specs.Three.{not3, implies3, all3, settle}
use Rattle.meaning.specs.Windows.{Window, In, places, within}
use Rattle.meaning.specs.Verdicts.{delimits, scoped}
use Rattle.meaning.specs.Wording.{Possible, Certain, ScopeWording, Wording}
use Rattle.meaning.proofs.Places.{and_holds, and_fails, fails_and, not_fails, not_holds, apart, all_holds, holds_all, all_fails, fails_all}

-- What an implication says, read backwards.

implies_holds : (d p : Verdict) → implies3 d p ≡ Holds → d ≢ Fails → p ≡ Holds
implies_holds d p e h = grind arith

holds_implies : (d p : Verdict) → (d ≢ Fails → p ≡ Holds) → implies3 d p ≡ Holds
holds_implies d p h = grind arith

implies_fails : (d p : Verdict) → implies3 d p ≡ Fails → (d ≡ Holds) × (p ≡ Fails)
implies_fails d p e = grind arith

-- another origin leaves what holds and what fails
settled : (o : Origin) (v : Verdict) → ((settle o v ≡ Holds) ↔ (v ≡ Holds)) × ((settle o v ≡ Fails) ↔ (v ≡ Fails))
settled o v = grind arith

-- No test of a run is yes, and each is no.
module _ (f : ℕ → Verdict) (from to : ℕ) where
  abbrev none : Verdict
  none = all3 (places from to) (λ j. not3 (f j))

  none_fails : none ≡ Fails → ((j : ℕ) → from ≤ j → j < to → f j ≢ Holds) → ⊥
  none_fails e h = let r = all_fails (λ j. not3 (f j)) from to e in h r.0 r.1 r.2 (not_fails (f r.0) r.3)

  yes_fails : (j : ℕ) → from ≤ j → j < to → f j ≡ Holds → none ≡ Fails
  yes_fails j l m e = fails_all (λ j. not3 (f j)) from to j l m (ap not3 e)

  none_holds : none ≡ Holds → (j : ℕ) → from ≤ j → j < to → f j ≡ Fails
  none_holds e j l m = not_holds (f j) (all_holds (λ j. not3 (f j)) from to e j l m)

  holds_none : ((j : ℕ) → from ≤ j → j < to → f j ≡ Fails) → none ≡ Holds
  holds_none h = holds_all (λ j. not3 (f j)) from to (λ j l m. ap not3 (h j l m))

-- an answer that is neither yes nor open is no
unsure_fails : (v : Verdict) → v ≢ Holds → (v ≢ Fails → ⊥) → v ≡ Fails
unsure_fails v h k = grind arith

-- neither below nor above
level : (i j : ℕ) → (j < i → ⊥) → (i < j → ⊥) → j ≡ i
level i j h k = omega arith

-- A place is possible exactly if it does not fail to delimit, and certain exactly if it delimits.
module _ (w : Window) (f : ℕ → Verdict) where
  pub possible_not : (o : Pick) (i : ℕ) → Possible o w f i → delimits o w f i ≢ Fails
  possible_not Each i p e = p.1 e
  possible_not First i p e = elim (and_fails _ _ e) [ inl h ↦ p.1 h | inr h ↦ none_fails f w.0 i h p.2 ]
  possible_not Last i p e = elim (and_fails _ _ e) [ inl h ↦ p.1 h | inr h ↦ none_fails f (i + 1) w.1 h (λ j l m. p.2 j (omega arith) m) ]

  pub not_possible : (o : Pick) (i : ℕ) → In w i → delimits o w f i ≢ Fails → Possible o w f i
  not_possible Each i n h = (n, h, tt)
  not_possible First i n h = (n, (λ e. h (fails_and _ _ (inl e))), λ j l m e. h (fails_and (f i) _ (inr (yes_fails f w.0 i j l m e))))
  not_possible Last i n h = (n, (λ e. h (fails_and _ _ (inl e))), λ j l m e. h (fails_and (f i) _ (inr (yes_fails f (i + 1) w.1 j (omega arith) m e))))

  pub certain_holds : (o : Pick) (i : ℕ) → Certain o w f i → delimits o w f i ≡ Holds
  certain_holds Each i c = c.1
  certain_holds First i c =
      rw c.1 (holds_none f w.0 i (λ j l m. unsure_fails (f j) (c.0.2 j l m) (λ h.
      let e = c.2 j ((l, omega arith), h, λ k l' m'. c.0.2 k l' (omega arith)) in omega arith)))
  certain_holds Last i c =
      rw c.1 (holds_none f (i + 1) w.1 (λ j l m. unsure_fails (f j) (c.0.2 j (omega arith) m) (λ h.
      let e = c.2 j ((omega arith, m), h, λ k l' m'. c.0.2 k (omega arith) m') in omega arith)))

  pub holds_certain : (o : Pick) (i : ℕ) → In w i → delimits o w f i ≡ Holds → Certain o w f i
  holds_certain Each i n e = ((n, (λ k. apart e k), tt), e, tt)
  holds_certain First i n e =
      let h = and_holds (f i) (none f w.0 i) e in
      let z = none_holds f w.0 i h.1 in (
        (n, (λ k. apart h.0 k), λ j l m k. apart k (z j l m)),
        h.0,
        λ j p. level i j (λ m. p.1 (z j p.0.0 m)) (λ m. p.2 i n.0 m h.0),
      )
  holds_certain Last i n e =
      let h = and_holds (f i) (none f (i + 1) w.1) e in
      let z = none_holds f (i + 1) w.1 h.1 in (
        (n, (λ k. apart h.0 k), λ j l m k. apart k (z j (omega arith) m)),
        h.0,
        λ j p. level i j (λ m. p.2 i m n.1 h.0) (λ m. p.1 (z j (omega arith) p.0.1)),
      )

-- a scope over any answers of its test and its property
scope_wording : (o : Pick) (w : Window) (f p : ℕ → Verdict) →
    ((scoped o w f p ≡ Holds) ↔ ((i : ℕ) → Possible o w f i → p i ≡ Holds))
    × ((scoped o w f p ≡ Fails) ↔ ((i : ℕ) × Certain o w f i × (p i ≡ Fails)))
scope_wording o w f p =
    let g : ℕ → Verdict = λ i. implies3 (delimits o w f i) (p i) in
    let s = settled _ (all3 (within w) g) in (
      (
        (λ e i q. implies_holds _ _ (all_holds g w.0 w.1 (s.0.0 e) i q.0.0 q.0.1) (possible_not w f o i q)),
        λ h. s.0.1 (holds_all g w.0 w.1 (λ i l m. holds_implies _ _ (λ d. h i (not_possible w f o i (l, m) d)))),
      ),
      (
        (λ e. let r = all_fails g w.0 w.1 (s.1.0 e) in
            let q = implies_fails _ _ r.3 in
            (r.0, holds_certain w f o r.0 (r.1, r.2) q.0, q.1)),
        λ c. s.1.1 (fails_all g w.0 w.1 c.0 c.1.0.0.0 c.1.0.0.1 (rw (certain_holds w f o c.0 c.1, c.2))),
      ),
    )

scopes : ScopeWording
scopes es η w r s o a d t p = scope_wording o w _ _

pub wording : Wording
wording = record { scopes = scopes }
