-- Quantifiers and connectives, one part after another.
use Rattle.std.proofs.Common.{◌≡◌, refl}
use Rattle.rules.specs.declared.row.Quantifier.{Quantifier}
use Rattle.rules.specs.declared.row.Quantifier.TheVariants.{Forall, Exists}
use Rattle.meaning.specs.declared.verdict.Verdict.{Verdict}
use Rattle.meaning.specs.declared.verdict.Verdict.TheVariants.{Holds, Fails, Open}
use Rattle.meaning.specs.Three.{not3}
use Rattle.judging.specs.Machine.{start, combined}

not_not : (v : Verdict) → not3 (not3 v) ≡ v
not_not Holds = refl
not_not Fails = refl
not_not (Open o) = refl

-- before the first value
pub combined_start : (q : Quantifier) (v : Verdict) → combined q (start q) v ≡ v
combined_start Forall v = refl
combined_start Exists v = not_not v
