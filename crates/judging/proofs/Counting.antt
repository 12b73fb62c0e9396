-- Answers counted one by one are counted as a whole.
use Rattle.std.proofs.Common.{◌≡◌, ℕ, suc, ◌+◌, ◌-◌, ◌≤◌, Bool, true, cond, ltb, leb, List, [], ◌∷◌, length, None, Option, unwrap_or, ◌≢◌, zero-add, arith}
use Rattle.std.proofs.lemmas.Bool.Decides.{nat_tests}
use Rattle.meaning.specs.declared.verdict.Origin.{Origin}
use Rattle.meaning.specs.declared.verdict.Verdict.{Verdict}
use Rattle.meaning.specs.declared.verdict.Verdict.TheVariants.{Holds, Fails, Open}
use Rattle.meaning.specs.Three.{holds?, possible?, count, origin_or, at_least3}
use Rattle.meaning.specs.Windows.{places}
use Rattle.std.proofs.lemmas.List.FromFn.{length-range_with_len}
use Rattle.judging.specs.declared.tally.Tally.{Tally}
use Rattle.judging.specs.Tallies.{noted, open_by, weighed, unchanging, ending}

-- a tally of n answers
pub record Sound (n : ℕ) (t : Tally) : Type 0 where
  pub most : t.yes + t.«open» ≤ n
  pub blamed : t.first ≡ None → t.«open» ≡ 0

pub noted_sound : (v : Verdict) (t : Tally) (n : ℕ) → Sound n t → Sound (n + 1) (noted v t)
noted_sound v t n h = grind arith

-- an origin that is there
told : (o : Option Origin) (e : Origin) → o ≢ None → Open (unwrap_or o e) ≡ open_by o
told o e h = grind arith

module _ (n : ℕ) where
  -- the verdict where h and m more answers hold or are possible, the first open one of them being e
  abbrev closing : Tally → (h m : ℕ) → Origin → Verdict
  closing t h m e = cond (leb n (t.yes + h)) Holds (cond (ltb (t.yes + t.«open» + m) n) Fails (Open (unwrap_or t.first e)))

  closing_next : (t : Tally) (h m : ℕ) (e : Origin) (v : Verdict) →
      closing t (cond (holds? v) (suc h) h) (cond (possible? v) (suc m) m) (origin_or e v) ≡ closing (noted v t) h m e
  closing_next t h m e v = grind arith

  -- few more answers, where they change nothing
  closing_certain : (t : Tally) (h m left : ℕ) (e : Origin) → (t.first ≡ None → t.«open» ≡ 0) → h ≤ left → m ≤ left → unchanging n left t ≡ true → closing t h m e ≡ weighed n t
  closing_certain t h m left e blamed a b c = grind (arith, nat_tests, told t.first e)

pub count_few : {A : Type 0} (p : A → Bool) (xs : List A) → count p xs ≤ length xs
count_few p [] = omega arith
count_few p (x ∷ xs) = grind (arith, count_few p xs)

module _ {A : Type 0} (n : ℕ) (f : A → Verdict) where
  -- before the first answer
  pub ending_start : (t : Tally) (xs : List A) → (t.yes ≡ 0) × ((t.«open» ≡ 0) × (t.first ≡ None)) → ending n t xs f ≡ at_least3 n xs f
  ending_start t xs h = rw (h.0, h.1.0, h.1.1) (simp zero-add)

  -- one answer more
  pub ending_next : (t : Tally) (x : A) (xs : List A) → ending n t (x ∷ xs) f ≡ ending n (noted (f x) t) xs f
  ending_next t x xs = closing_next n t _ _ _ (f x)

  pub ending_certain : (t : Tally) (m left : ℕ) (xs : List A) → Sound m t → length xs ≡ left → unchanging n left t ≡ true → ending n t xs f ≡ weighed n t
  ending_certain t m left xs s e h =
      let a = count_few (λ x. holds? (f x)) xs in
      let b = count_few (λ x. possible? (f x)) xs in
      closing_certain n t _ _ left _ s.blamed (omega arith) (omega arith) h

pub places_many : (from to : ℕ) → length (places from to) ≡ to - from
places_many from to = length-range_with_len from (to - from)
