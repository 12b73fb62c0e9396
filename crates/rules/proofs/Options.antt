-- Values that are there or not.
use Rattle.std.proofs.Common.{◌≡◌, Bool, true, false, Some, refl, ap}
use Rattle.rules.specs.Decoded.{when}

pub when_true : {A : Type 0} (b : Bool) (x : A) → b ≡ true → when b x ≡ Some x
when_true b x e = ap (λ c. when c x) e

pub when_is : {A : Type 0} (b : Bool) (x v : A) → when b x ≡ Some v → (b ≡ true) × (x ≡ v)
when_is true x v e = (refl, cc)
when_is false x v e = absurd (cc)
