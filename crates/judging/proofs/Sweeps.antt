-- A scope judged at one possible delimiter after another comes to its verdict.
use Rattle.std.proofs.Common.{◌≡◌, ℕ, zero, suc, ◌+◌, ◌-◌, ◌<◌, ◌≤◌, cond, ◌≢◌, List, [], ◌∷◌, Some, None, Option, sym, refl, ap, ◌∙◌, ap₂, inl, inr, arith}
use Rattle.std.proofs.lemmas.Bool.{cases_lt}
use Rattle.rules.specs.declared.row.Pick.{Pick}
use Rattle.rules.specs.declared.row.Pick.TheVariants.{First, Last, Each}
use Rattle.meaning.specs.declared.verdict.Origin.{Origin}
use Rattle.meaning.specs.declared.verdict.Verdict.{Verdict}
use Rattle.meaning.specs.declared.verdict.Verdict.TheVariants.{Holds, Fails, Open}
use Rattle.meaning.specs.Three.{not3, and3, implies3, all3, possible?, first_open, settle}
use Rattle.std.specs.List.{filter}
use Rattle.meaning.specs.Windows.{Window, places}
use Rattle.meaning.specs.Verdicts.{delimits, blamed_on, scoped}
use Rattle.meaning.proofs.Places.{places_next, and_holds, fails_and, apart, all_push, all_holds, fails_all}
use Rattle.std.specs.declared.ops.ControlFlow.TheVariants.{Break, Continue}
use Rattle.judging.specs.Sweeps.{downto, order, doubted, closed, former, absorbed, needed, swept}

-- the origin that is known already, else another
abbrev from : Option Origin → Origin → Origin
from None o = o
from (Some e) o = e

-- Places xs, where g says whether a place delimits, f what its test is and p what is judged there.

abbrev among : (g : ℕ → Verdict) → List ℕ → List ℕ
among g xs = filter (λ i. possible? (g i)) xs

abbrev every : (g p : ℕ → Verdict) → List ℕ → Verdict
every g p xs = all3 xs (λ i. implies3 (g i) (p i))

-- the verdict of a scope with these possible delimiters, by the lowest open test so far
abbrev ruling : (f p : ℕ → Verdict) → Option Origin → (possible : List ℕ) → Verdict → Verdict
ruling f p d is v = settle (blamed_on (from d (first_open is f)) is p) v

abbrev ruled : (g f p : ℕ → Verdict) → Option Origin → List ℕ → Verdict
ruled g f p d xs = ruling f p d (among g xs) (every g p xs)

-- p at the first place where it does not hold
abbrev stands : (p : ℕ → Verdict) → List ℕ → Verdict
stands p [] = Holds
stands p (i ∷ is) = former (p i) (stands p is)

-- An open side counts once, whatever its origin.

again : (q r : Origin) (v : Verdict) → settle q (and3 (Open q) v) ≡ settle q (and3 (Open q) (and3 (Open r) v))
again q r v = grind arith

alike : (q r s : Origin) (v : Verdict) → settle q (and3 (Open r) v) ≡ settle q (and3 (Open s) v)
alike q r s v = grind arith

-- The first open test is behind a place whose test is yes or no.

open_behind : (f : ℕ → Verdict) (x : ℕ) (xs : List ℕ) → f x ≡ Holds → first_open (x ∷ xs) f ≡ first_open xs f
open_behind f x xs e = grind arith

open_here : (f : ℕ → Verdict) (x : ℕ) (xs : List ℕ) (q : Origin) → f x ≡ Open q → first_open (x ∷ xs) f ≡ q
open_here f x xs q e = grind arith

-- Each.
module _ (f p : ℕ → Verdict) where
  -- once something open stands, only a certain delimiter where p fails changes that
  each_open : (d : Option Origin) (q : Origin) (xs : List ℕ) → swept Each f p d (Open q) xs ≡ settle q (and3 (Open q) (every f p xs))
  each_open d q [] = refl
  each_open d q (x ∷ xs) =
      let h : (d : Option Origin) (q : Origin) → swept Each f p d (Open q) xs ≡ settle q (and3 (Open q) (every f p xs)) = λ d q. each_open d q xs in
      grind (arith, h (doubted Each (f x) d) q, h d q, again)

  each_sweeps : (d : Option Origin) (xs : List ℕ) (o : Origin) → o ≡ from d (first_open (among f xs) f) →
      swept Each f p d Holds xs ≡ settle (blamed_on o (among f xs) p) (every f p xs)
  each_sweeps d [] o z = refl
  each_sweeps d (x ∷ xs) o z =
      let h : (d : Option Origin) → o ≡ from d (first_open (among f xs) f) → swept Each f p d Holds xs ≡ settle (blamed_on o (among f xs) p) (every f p xs) = λ d. each_sweeps d xs o in
      grind (arith, h d, h (doubted Each (f x) d), each_open, alike, open_behind f x, open_here f x)

-- Places, one by one: the lowest place is one of the possible ones or it is not, as it delimits.
module _ (g p : ℕ → Verdict) (b : ℕ) where
  -- places that do not delimit say nothing
  skip : (n i k : ℕ) → k ≡ i + n → k ≤ b → ((j : ℕ) → i ≤ j → j < k → g j ≡ Fails) →
      (among g (places i b) ≡ among g (places k b)) × (every g p (places i b) ≡ every g p (places k b))
  skip zero i k z l h = let y : i ≡ k = omega arith in rw y (refl, refl)
  skip (suc n) i k z l h = grind (arith, places_next i b, h i, skip n (i + 1) k (omega arith) l (λ j m. h j (omega arith)))

  -- if none does, nothing is left
  spent : (i : ℕ) → i ≤ b → ((j : ℕ) → i ≤ j → j < b → g j ≡ Fails) → (among g (places i b) ≡ []) × (every g p (places i b) ≡ Holds)
  spent i l h = let z : b - b ≡ 0 = omega arith in rw z at (skip (b - i) i b (omega arith) (omega arith) h)

  -- a scope that is open or holds does not fail with one more open place
  keeps_open : (o q t r : Origin) (s v : Verdict) → settle o v ≡ closed (Some q) s → settle r (and3 (Open t) v) ≡ Open r
  keeps_open o q t r s v e = grind arith

  -- where no place is sure to delimit, the first place where p does not hold tells the verdict
  abbrev Unsure : Origin → ℕ → Type 0
  Unsure o i = settle (blamed_on o (among g (places i b)) p) (every g p (places i b)) ≡ closed (Some o) (stands p (among g (places i b)))

  unsure : (o : Origin) (n i : ℕ) → i + n ≡ b → ((j : ℕ) → i ≤ j → j < b → g j ≢ Holds) → Unsure o i
  unsure o zero i z h = let y : b - i ≡ 0 = omega arith in rw y
  unsure o (suc n) i z h = grind (arith, places_next i b, unsure o n (i + 1), keeps_open)

  -- a lone delimiter, which is certain, hands over what is judged there
  lone : (f : ℕ → Verdict) (i : ℕ) → i < b → g i ≡ Holds → ((j : ℕ) → i < j → j < b → g j ≡ Fails) → closed None (p i) ≡ ruled g f p None (places i b)
  lone f i l e h =
      let r = spent (i + 1) (omega arith) (λ j m. h j (omega arith)) in
      let is : among g (places i b) ≡ i ∷ [] = rw (places_next i b l, e, r.0) in
      let v : every g p (places i b) ≡ and3 (implies3 Holds (p i)) Holds = rw (places_next i b l, e, r.1) in
      go (p i) _ ∙ sym (ap₂ (ruling f p None) is v)
    where
      go : (u : Verdict) (o : Origin) → closed None u ≡ settle (elim u [ Holds ↦ o | Fails ↦ o | Open q ↦ q ]) (and3 (implies3 Holds u) Holds)
      go Holds o = refl
      go Fails o = refl
      go (Open q) o = refl

  -- where no place is sure to delimit and a test is open, that test is to blame for a failing p
  undecided : (f : ℕ → Verdict) (e : Origin) (i : ℕ) → i ≤ b → ((j : ℕ) → i ≤ j → j < b → g j ≢ Holds) → first_open (among g (places i b)) f ≡ e →
      closed (Some e) (stands p (among g (places i b))) ≡ ruled g f p None (places i b)
  undecided f e i l h z =
      sym (unsure e (b - i) i (omega arith) h) ∙ ap (λ o. settle (blamed_on o (among g (places i b)) p) (every g p (places i b))) (sym z)

-- Verdicts that do not fail.

and_open : (q : Origin) (v : Verdict) → v ≢ Fails → and3 (Open q) v ≡ Open q
and_open q v h = grind arith

open_not : {v : Verdict} {q : Origin} → v ≡ Open q → (v ≢ Holds) × (v ≢ Fails)
open_not e = ((λ h. cc), λ h. cc)

former_last : (v : Verdict) → former v Holds ≡ v
former_last v = grind arith

-- one more place is tried, by its test v, what is judged there and what the places behind it make of that
abbrev onward : Pick → (v u : Verdict) → Option Origin → Verdict → (Option Origin → Verdict → Verdict) → Verdict
onward o v u d s k = cond (needed o s v) (elim (absorbed o v (doubted o v d) s u) [ Break r ↦ r | Continue t ↦ k (doubted o v d) t ]) (k d s)

tried : (o : Pick) (f p : ℕ → Verdict) (d : Option Origin) (s : Verdict) (x : ℕ) (xs : List ℕ) (v : Verdict) → f x ≡ v →
    swept o f p d s (x ∷ xs) ≡ onward o v (p x) d s (λ d s. swept o f p d s xs)
tried o f p d s x xs v e = ap (λ v. onward o v (p x) d s (λ d s. swept o f p d s xs)) e

-- the answer of a test turned round
abbrev no : (ℕ → Verdict) → ℕ → Verdict
no f j = not3 (f j)

-- First: `unseen i` says that no test before i is yes.
module _ (w : Window) (f p : ℕ → Verdict) where
  abbrev unseen : ℕ → Verdict
  unseen i = all3 (places w.0 i) (no f)

  abbrev first : ℕ → Verdict
  first = delimits First w f

  -- past a yes no place delimits
  past : (i : ℕ) → w.0 ≤ i → f i ≡ Holds → (j : ℕ) → i < j → first j ≡ Fails
  past i l e j m = grind (arith, fails_and (f j) (unseen j), fails_all (no f) w.0 j i)

  -- from an open test on no place is sure to
  first_unsure : (i : ℕ) (q : Origin) → w.0 ≤ i → f i ≡ Open q → (j : ℕ) → i ≤ j → first j ≢ Holds
  first_unsure i q l e j m h = grind (arith, and_holds (f j) (unseen j), all_holds (no f) w.0 j)

  -- a test other than yes leaves that as it is
  still : (i : ℕ) → w.0 ≤ i → f i ≢ Holds → unseen i ≢ Fails → unseen (i + 1) ≢ Fails
  still i l k h y = grind (arith, all_push (no f) w.0 i)

  first_doubted : (n i : ℕ) (e : Origin) → i + n ≡ w.1 → w.0 ≤ i → unseen i ≢ Fails →
      swept First f p (Some e) Holds (places i w.1) ≡ closed (Some e) (stands p (among first (places i w.1)))
  first_doubted zero i e z l h = let y : w.1 - i ≡ 0 = omega arith in rw y
  first_doubted (suc n) i e z l h = grind (arith, places_next i w.1, first_doubted n (i + 1) e, still i, spent first p w.1 (i + 1), past i, former_last, and_open)

  first_sure : (n i : ℕ) → i + n ≡ w.1 → w.0 ≤ i → unseen i ≡ Holds → swept First f p None Holds (places i w.1) ≡ ruled first f p None (places i w.1)
  first_sure zero i z l h = let y : w.1 - i ≡ 0 = omega arith in rw y
  first_sure (suc n) i z l h = go (f i) refl (λ h. first_sure n (i + 1) (omega arith) (omega arith) h)
    where
      next : places i w.1 ≡ i ∷ places (i + 1) w.1
      next = places_next i w.1 (omega arith)

      go : (v : Verdict) → f i ≡ v →
          (unseen (i + 1) ≡ Holds → swept First f p None Holds (places (i + 1) w.1) ≡ ruled first f p None (places (i + 1) w.1)) →
          swept First f p None Holds (places i w.1) ≡ ruled first f p None (places i w.1)
      go Holds x r =
          let c : swept First f p None Holds (places i w.1) ≡ closed None (p i) = rw (next, x) in
          c ∙ lone first p w.1 f i (omega arith) (rw (x, h)) (λ j m k. past i l x j m)
      go Fails x r =
          let c : swept First f p None Holds (places i w.1) ≡ swept First f p None Holds (places (i + 1) w.1) = rw (next, x) in
          let s = skip first p w.1 1 i (i + 1) refl (omega arith) (λ j m k. let y : j ≡ i = omega arith in rw (y, x)) in
          c ∙ r (rw (all_push (no f) w.0 i l, h, x)) ∙ sym (ap₂ (ruling f p None) s.0 s.1)
      go (Open t) x r =
          let c : swept First f p None Holds (places i w.1) ≡ swept First f p (Some t) Holds (places i w.1) =
          rw next (tried First f p None Holds i _ (Open t) x ∙ sym (tried First f p (Some t) Holds i _ (Open t) x)) in
          let is : among first (places i w.1) ≡ i ∷ among first (places (i + 1) w.1) = rw (next, x, h) in
          c ∙ first_doubted (suc n) i t z l (λ k. apart h k)
          ∙ undecided first p w.1 f t i (omega arith) (λ j m k. first_unsure i t l x j m) (rw is (open_here f i _ t x))

-- Last: `unseen_from i` says that no test from i on is yes.
module _ (w : Window) (f p : ℕ → Verdict) where
  abbrev unseen_from : ℕ → Verdict
  unseen_from i = all3 (places i w.1) (no f)

  abbrev last : ℕ → Verdict
  last = delimits Last w f

  -- before a yes no place delimits
  before : (i : ℕ) → i < w.1 → f i ≡ Holds → (j : ℕ) → j < i → last j ≡ Fails
  before i l e j m = grind (arith, fails_and (f j) (unseen_from (j + 1)), fails_all (no f) (j + 1) w.1 i)

  -- so the verdict is that over the places from the yes on
  from_yes : (i : ℕ) → w.0 ≤ i → i < w.1 → f i ≡ Holds → ruled last f p None (places i w.1) ≡ ruled last f p None (places w.0 w.1)
  from_yes i l m e =
      let s = skip last p w.1 (i - w.0) w.0 i (omega arith) (omega arith) (λ j k. before i m e j) in
      sym (ap₂ (ruling f p None) s.0 s.1)

  -- where some test is open and none is yes, no place is sure to delimit, nor the one before
  last_unsure : (i : ℕ) (q : Origin) → unseen_from i ≡ Open q → (j : ℕ) → i ≤ j + 1 → j < w.1 → last j ≢ Holds
  last_unsure i q e j l m h = grind (arith, and_holds (f j) (unseen_from (j + 1)), fails_all (no f) i w.1 j)

  -- where every test is no, no place delimits
  quiet : (i : ℕ) → unseen_from i ≡ Holds → (j : ℕ) → i ≤ j → j < w.1 → last j ≡ Fails
  quiet i e j l m = grind (arith, fails_and (f j) (unseen_from (j + 1)), all_holds (no f) i w.1)

  -- what is left is tried, and the verdict comes out
  abbrev Ends : Option Origin → Verdict → ℕ → Type 0
  Ends d s n = swept Last f p d s (downto w.0 n) ≡ ruled last f p None (places w.0 w.1)

  -- from place i on no test is yes, and the lowest open one is that of e
  record Doubted (e : Origin) (i : ℕ) : Type 0 where
    unsure_yet : unseen_from i ≡ Open e
    lowest : first_open (among last (places i w.1)) f ≡ e

  -- an open test at place i becomes the lowest
  meets_open : (i : ℕ) (t : Origin) → i < w.1 → f i ≡ Open t → unseen_from (i + 1) ≢ Fails →
      Doubted t i × (among last (places i w.1) ≡ i ∷ among last (places (i + 1) w.1))
  meets_open i t l x h =
      let next = places_next i w.1 l in
      let is : among last (places i w.1) ≡ i ∷ among last (places (i + 1) w.1) = rw (next, x, and_open t (unseen_from (i + 1)) h) in
      (record { unsure_yet = rw (next, x) (and_open t (unseen_from (i + 1)) h); lowest = rw is (open_here f i _ t x) }, is)

  last_doubted : (n : ℕ) (e : Origin) → w.0 + n ≤ w.1 → Doubted e (w.0 + n) → Ends (Some e) (stands p (among last (places (w.0 + n) w.1))) n
  last_doubted zero e l h =
      let z : w.0 + 0 ≡ w.0 = omega arith in
      let k : Doubted e w.0 = rw z at h in
      rw z (undecided last p w.1 f e w.0 (omega arith) (λ j m. last_unsure w.0 e k.unsure_yet j (omega arith)) k.lowest)
  last_doubted (suc n) e l h =
      let z : w.0 + suc n ≡ w.0 + n + 1 = omega arith in
      rw z (go (f (w.0 + n)) refl (rw z at h) (λ e. last_doubted n e (omega arith)))
    where
      go : (v : Verdict) → f (w.0 + n) ≡ v → Doubted e (w.0 + n + 1) →
          ((e : Origin) → Doubted e (w.0 + n) → Ends (Some e) (stands p (among last (places (w.0 + n) w.1))) n) →
          Ends (Some e) (stands p (among last (places (w.0 + n + 1) w.1))) (suc n)
      go Holds x h r =
          let i : ℕ = w.0 + n in
          let is : among last (places i w.1) ≡ i ∷ among last (places (i + 1) w.1) = rw (places_next i w.1 (omega arith), x, h.unsure_yet) in
          let c = undecided last p w.1 f e i (omega arith) (λ j m. last_unsure (i + 1) e h.unsure_yet j (omega arith)) (rw is (open_behind f i _ x ∙ h.lowest)) in
          tried Last f p (Some e) _ i _ Holds x ∙ ap (λ is. closed (Some e) (stands p is)) (sym is) ∙ c ∙ from_yes i (omega arith) (omega arith) x
      go Fails x h r =
          let i : ℕ = w.0 + n in
          let next = places_next i w.1 (omega arith) in
          let is : among last (places i w.1) ≡ among last (places (i + 1) w.1) = rw (next, x) in
          tried Last f p (Some e) _ i _ Fails x ∙ (rw is at (r e (record { unsure_yet = rw (next, x) h.unsure_yet; lowest = rw is h.lowest })))
      go (Open t) x h r =
          let m = meets_open (w.0 + n) t (omega arith) x (open_not h.unsure_yet).1 in
          tried Last f p (Some e) _ (w.0 + n) _ (Open t) x ∙ (rw m.1 at (r t m.0))

  last_sure : (n : ℕ) → w.0 + n ≤ w.1 → unseen_from (w.0 + n) ≡ Holds → Ends None Holds n
  last_sure zero l h =
      let z : w.0 + 0 ≡ w.0 = omega arith in
      let k : unseen_from w.0 ≡ Holds = rw z at h in
      rw (spent last p w.1 w.0 (omega arith) (quiet w.0 k)).1
  last_sure (suc n) l h =
      let z : w.0 + suc n ≡ w.0 + n + 1 = omega arith in
      go (f (w.0 + n)) refl (rw z at h) (last_sure n (omega arith))
    where
      go : (v : Verdict) → f (w.0 + n) ≡ v → unseen_from (w.0 + n + 1) ≡ Holds → (unseen_from (w.0 + n) ≡ Holds → Ends None Holds n) → Ends None Holds (suc n)
      go Holds x h r =
          let i : ℕ = w.0 + n in
          tried Last f p None Holds i _ Holds x ∙ ap (closed None) (former_last (p i))
          ∙ lone last p w.1 f i (omega arith) (rw (x, h)) (λ j m. quiet (i + 1) h j (omega arith))
          ∙ from_yes i (omega arith) (omega arith) x
      go Fails x h r = tried Last f p None Holds (w.0 + n) _ Fails x ∙ r (rw (places_next (w.0 + n) w.1 (omega arith), x) h)
      go (Open t) x h r =
          let i : ℕ = w.0 + n in
          let m = meets_open i t (omega arith) x (λ k. apart h k) in
          let is = m.1 ∙ ap (λ is. i ∷ is) (spent last p w.1 (i + 1) (omega arith) (quiet (i + 1) h)).0 in
          tried Last f p None Holds i _ (Open t) x ∙ (rw is at (last_doubted n t (omega arith) m.0))

-- a window without places
none_tried : (o : Pick) (w : Window) (f p : ℕ → Verdict) → w.1 ≤ w.0 → swept o f p None Holds (order o w) ≡ scoped o w f p
none_tried First w f p l = let z : w.1 - w.0 ≡ 0 = omega arith in rw z
none_tried Last w f p l = let z : w.1 - w.0 ≡ 0 = omega arith in rw z
none_tried Each w f p l = let z : w.1 - w.0 ≡ 0 = omega arith in rw z

-- and one with some
all_tried : (o : Pick) (w : Window) (f p : ℕ → Verdict) → w.0 < w.1 → swept o f p None Holds (order o w) ≡ scoped o w f p
all_tried First w f p l = first_sure w f p (w.1 - w.0) w.0 (omega arith) (omega arith) (let z : w.0 - w.0 ≡ 0 = omega arith in rw z)
all_tried Last w f p l =
    let z : w.0 + (w.1 - w.0) ≡ w.1 = omega arith in
    let y : w.1 - w.1 ≡ 0 = omega arith in
    last_sure w f p (w.1 - w.0) (omega arith) (rw (z, y))
all_tried Each w f p l = each_sweeps f p None (places w.0 w.1) _ refl

pub sweeps : (o : Pick) (w : Window) (f p : ℕ → Verdict) → swept o f p None Holds (order o w) ≡ scoped o w f p
sweeps o w f p = elim (cases_lt w.0 w.1) [ inl l ↦ all_tried o w f p l | inr l ↦ none_tried o w f p l ]
