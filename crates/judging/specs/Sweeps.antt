-- A scope judged at one possible delimiter after another, rising for first and each, falling for last.
use Rattle.std.specs.Prelude.{ℕ, zero, suc, ◌+◌, ◌-◌, Bool, cond, List, [], ◌∷◌, Some, None, Option}
use Rattle.rules.specs.declared.row.Pick.{Pick}
use Rattle.rules.specs.declared.row.Pick.TheVariants.{First, Last, Each}
use Rattle.meaning.specs.declared.verdict.Origin.{Origin}
use Rattle.meaning.specs.declared.verdict.Verdict.{Verdict}
use Rattle.meaning.specs.declared.verdict.Verdict.TheVariants.{Holds, Fails, Open}
use Rattle.meaning.specs.Three.{holds?, possible?}
use Rattle.meaning.specs.Windows.{Window, places}
use Rattle.std.specs.declared.ops.ControlFlow.{ControlFlow}
use Rattle.std.specs.declared.ops.ControlFlow.TheVariants.{Break, Continue}

-- n places from i on, falling
abbrev pub downto : ℕ → ℕ → List ℕ
downto i zero = []
downto i (suc n) = (i + n) ∷ downto i n

-- the places of a window in the order in which they are tried
abbrev pub order : Pick → Window → List ℕ
order First w = places w.0 w.1
order Each w = places w.0 w.1
order Last w = downto w.0 (w.1 - w.0)

-- the lowest open test of the delimiters tried
abbrev pub doubted : Pick → (test : Verdict) → Option Origin → Option Origin
doubted o Holds d = d
doubted o Fails d = d
doubted Last (Open q) d = Some q
doubted First (Open q) None = Some q
doubted First (Open q) (Some e) = Some e
doubted Each (Open q) None = Some q
doubted Each (Open q) (Some e) = Some e

-- what the lowest delimiter where p does not hold makes of a scope: a failing p leaves it open if a test is
abbrev pub closed : Option Origin → Verdict → Verdict
closed d Holds = Holds
closed d (Open q) = Open q
closed None Fails = Fails
closed (Some e) Fails = Open e

-- the first of two that does not hold
abbrev pub former : Verdict → Verdict → Verdict
former Holds v = v
former Fails v = Fails
former (Open q) v = Open q

-- one more delimiter, with the verdict v of p there; s is what stands so far.
-- It breaks with the verdict of the scope, or continues with what stands then.
abbrev pub absorbed : Pick → (test : Verdict) → Option Origin → (s v : Verdict) → ControlFlow Verdict Verdict
absorbed First Holds d s v = Break (closed d v)
absorbed First Fails d s v = Continue s
absorbed First (Open q) d s Holds = Continue s
absorbed First (Open q) d s Fails = Break (closed d Fails)
absorbed First (Open q) d s (Open e) = Break (Open e)
absorbed Each Holds d s Holds = Continue s
absorbed Each Holds d s Fails = Break Fails
absorbed Each Holds d s (Open e) = Continue (former s (Open e))
absorbed Each Fails d s v = Continue s
absorbed Each (Open q) d s v = Continue (former s (closed d v))
absorbed Last Holds d s v = Break (closed d (former v s))
absorbed Last Fails d s v = Continue s
absorbed Last (Open q) d s v = Continue (former v s)

-- whether the property has to be judged at a place: its test is other than no,
-- and for each, once something is open, only a yes can change that
abbrev pub needed : Pick → (s test : Verdict) → Bool
needed First s v = possible? v
needed Last s v = possible? v
needed Each Holds v = possible? v
needed Each Fails v = holds? v
needed Each (Open q) v = holds? v

-- what is answered in the end, over the places still to be tried
abbrev pub swept : Pick → (f p : ℕ → Verdict) → Option Origin → (s : Verdict) → List ℕ → Verdict
swept o f p d s [] = closed d s
swept o f p d s (i ∷ is) =
    cond (needed o s (f i))
    (elim (absorbed o (f i) (doubted o (f i) d) s (p i)) [ Break v ↦ v | Continue u ↦ swept o f p (doubted o (f i) d) u is ])
    (swept o f p d s is)
