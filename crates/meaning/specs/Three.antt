-- Three-valued answers: their connectives, and the same over lists.
use Rattle.std.specs.Prelude.{ℕ, suc, Bool, true, false, cond, List, [], ◌∷◌, nat_le, nat_lt}
use Rattle.meaning.specs.declared.verdict.Cause.TheVariants.{Missing}
use Rattle.meaning.specs.declared.verdict.Origin.{Origin}
use Rattle.meaning.specs.declared.verdict.Verdict.{Verdict}
use Rattle.meaning.specs.declared.verdict.Verdict.TheVariants.{Holds, Fails, Open}

abbrev pub not3 : Verdict → Verdict
not3 Holds = Fails
not3 Fails = Holds
not3 (Open o) = Open o

-- fails if a side fails, holds if both hold, else open, by its first open side
abbrev pub and3 : Verdict → Verdict → Verdict
and3 Holds w = w
and3 Fails w = Fails
and3 (Open o) Holds = Open o
and3 (Open o) Fails = Fails
and3 (Open o) (Open p) = Open o

-- the mirror of and
abbrev pub or3 : Verdict → Verdict → Verdict
or3 v w = not3 (and3 (not3 v) (not3 w))

abbrev pub implies3 : Verdict → Verdict → Verdict
implies3 v w = or3 (not3 v) w

-- the same for each of a list, and for one of a list
abbrev pub all3 : {A : Type 0} → List A → (A → Verdict) → Verdict
all3 [] f = Holds
all3 (x ∷ xs) f = and3 (f x) (all3 xs f)

abbrev pub any3 : {A : Type 0} → List A → (A → Verdict) → Verdict
any3 xs f = not3 (all3 xs (λ x. not3 (f x)))

-- yes, and other than no
abbrev pub holds? : Verdict → Bool
holds? Holds = true
holds? Fails = false
holds? (Open o) = false

abbrev pub possible? : Verdict → Bool
possible? Holds = true
possible? Fails = false
possible? (Open o) = true

-- how many of a list pass
abbrev pub count : {A : Type 0} → (A → Bool) → List A → ℕ
count p [] = 0
count p (x ∷ xs) = cond (p x) (suc (count p xs)) (count p xs)

-- stands where no answer is open
abbrev pub nowhere : Origin
nowhere = record { row = 0; place = 0; cause = Missing }

-- the origin of an answer that is open, else another
abbrev pub origin_or : Origin → Verdict → Origin
origin_or o Holds = o
origin_or o Fails = o
origin_or o (Open p) = p

abbrev pub first_open : {A : Type 0} → List A → (A → Verdict) → Origin
first_open [] f = nowhere
first_open (x ∷ xs) f = origin_or (first_open xs f) (f x)

-- holds if at least n hold, fails if fewer than n hold or are open, else open, by the first open one
abbrev pub at_least3 : {A : Type 0} → ℕ → List A → (A → Verdict) → Verdict
at_least3 n xs f =
    cond (nat_le n (count (λ x. holds? (f x)) xs)) Holds
    (cond (nat_lt (count (λ x. possible? (f x)) xs) n) Fails (Open (first_open xs f)))

-- an open answer with another origin
abbrev pub settle : Origin → Verdict → Verdict
settle o Holds = Holds
settle o Fails = Fails
settle o (Open p) = Open o
