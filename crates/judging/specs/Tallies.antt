-- Answers counted one by one.
use Rattle.std.specs.Prelude.{ℕ, ◌+◌, Bool, cond, ◌&&◌, ◌||◌, List, None, Some, Option, nat_le, nat_lt, unwrap_or}
use Rattle.meaning.specs.declared.verdict.Origin.{Origin}
use Rattle.meaning.specs.declared.verdict.Verdict.{Verdict}
use Rattle.meaning.specs.declared.verdict.Verdict.TheVariants.{Holds, Fails, Open}
use Rattle.meaning.specs.Three.{holds?, possible?, count, first_open}
use Rattle.judging.specs.declared.tally.Tally.{Tally}

-- one answer more
abbrev pub noted : Verdict → Tally → Tally
noted Holds t = record { yes = t.yes + 1; «open» = t.«open»; first = t.first }
noted Fails t = t
noted (Open o) t = record { yes = t.yes; «open» = t.«open» + 1; first = Some (unwrap_or t.first o) }

-- open by an origin, if there is one
abbrev pub open_by : Option Origin → Verdict
open_by None = Fails
open_by (Some o) = Open o

abbrev pub weighed : (n : ℕ) → Tally → Verdict
weighed n t = cond (nat_le n t.yes) Holds (cond (nat_lt (t.yes + t.«open») n) Fails (open_by t.first))

-- `left` more answers cannot change the verdict
abbrev pub unchanging : (n left : ℕ) → Tally → Bool
unchanging n left t =
    nat_le n t.yes || (nat_lt (t.yes + t.«open» + left) n || (nat_lt (t.yes + left) n && nat_le n (t.yes + t.«open»)))

-- the verdict with the answers of a list still to come
abbrev pub ending : {A : Type 0} → (n : ℕ) → Tally → List A → (A → Verdict) → Verdict
ending n t xs f =
    cond (nat_le n (t.yes + count (λ x. holds? (f x)) xs)) Holds
    (cond (nat_lt (t.yes + t.«open» + count (λ x. possible? (f x)) xs) n) Fails (Open (unwrap_or t.first (first_open xs f))))
