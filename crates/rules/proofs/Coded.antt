-- Heads and numbers, there and back.
use Rattle.std.proofs.Common.{◌≡◌, ℕ, Bool, true, false, cond, ◌&&◌, eqb, List, [], ◌∷◌, map, ℤ, pos, negsuc, Some, None, Option, sym, refl, ap, ◌∙◌, arith}
use lib.Signed.{le_z, mag}
use Rattle.std.proofs.lemmas.Bool.{and_parts, leb-true, eqb-true}
use Rattle.rules.specs.declared.row.Connective.TheVariants as connective
use Rattle.rules.specs.declared.row.Junction.TheVariants as junction
use Rattle.rules.specs.declared.row.Quantifier.TheVariants.{Forall, Exists}
use Rattle.rules.specs.declared.row.Operation.TheVariants.{Sum, Difference, Product, Quotient}
use Rattle.rules.specs.declared.row.Relation.TheVariants.{Equal, Less, AtMost}
use Rattle.rules.specs.declared.row.Side.{Side}
use Rattle.rules.specs.declared.row.Side.TheVariants.{After, Before, Given}
use Rattle.rules.specs.declared.row.Pick.{Pick}
use Rattle.rules.specs.declared.raw.RawRow.{RawRow}
use Rattle.rules.specs.declared.row.Row.{Row}
use Rattle.rules.specs.declared.row.Row.TheVariants.{Not, Connect, Occurrence, Absence, Scope, Quantify, True, NotTest, Join, Compare, Constant, Time, Value, Number, Reckon}
use Rattle.rules.specs.Decoded.{bare_kinds, picks, field_kinds, when, listed, found, named, zero_z, blank, bare, only_code, only_number, only_name, only_variable, pick_of, duration_allowed, occurrence_of, scope_of, decoded}
use Rattle.rules.specs.Encoded.{raw, bare_kind, encoded, allowed, Stands, side_kind, pick_number}
use Rattle.rules.proofs.Options.{when_is}

-- a head and a number stand for a row exactly if they are its own
pub record Coded : Type 0 where
  pub there : (r : Row) → allowed r ≡ true → decoded (encoded r) ≡ Some r
  pub back : (w : RawRow) (r : Row) → decoded w ≡ Some r → Stands w r

scope_there : (s : Side) (p : Pick) (a d : ℕ) → allowed (Scope s p a d) ≡ true → scope_of s (raw (side_kind s) a (pick_number p) (pos d)) ≡ Some (Scope s p a d)
scope_there s p a d h = grind arith

there : (r : Row) → allowed r ≡ true → decoded (encoded r) ≡ Some r
there Not h = refl
there (Connect connective.Or) h = refl
there (Connect connective.And) h = refl
there (Connect connective.Implies) h = refl
there (Occurrence a n) h = grind arith
there (Absence a) h = grind arith
there (Scope After p a d) h = scope_there After p a d h
there (Scope Before p a d) h = scope_there Before p a d h
there (Scope Given p a d) h = scope_there Given p a d h
there (Quantify Forall a b) h = grind arith
there (Quantify Exists a b) h = grind arith
there True h = refl
there NotTest h = refl
there (Join junction.And) h = refl
there (Join junction.Or) h = refl
there (Compare Equal) h = refl
there (Compare Less) h = refl
there (Compare AtMost) h = refl
there (Constant k) h = refl
there (Time a) h = refl
there (Value a b) h = grind arith
there (Number a) h = refl
there (Reckon Sum) h = refl
there (Reckon Difference) h = refl
there (Reckon Product) h = refl
there (Reckon Quotient) h = refl

infixr 40 ◌also◌
-- one entry after another
abbrev ◌also◌ : {A B : Type 0} → A → B → A × B
x also y = (x, y)

-- what a table has for a number is one of its entries
abbrev Each-found : {A : Type 0} (P : Type 0) (k : ℕ) (v : A) → List (ℕ × A) → Type 0
Each-found P k v [] = Unit {0}
Each-found P k v (e ∷ es) = (k ≡ e.0 → e.1 ≡ v → P) × Each-found P k v es

found_split : {A : Type 0} (P : Type 0) (k n : ℕ) (v x y : A) → (k ≡ n → x ≡ v → P) → (y ≡ v → P) → (b : Bool) → eqb k n ≡ b → cond b x y ≡ v → P
found_split P k n v x y f g true q h = f (eqb-true k n q) h
found_split P k n v x y f g false q h = g h

found_by : {A : Type 0} (P : Type 0) (k : ℕ) (v other : A) (es : List (ℕ × A)) → Each-found P k v es → (other ≡ v → P) → found k es other ≡ v → P
found_by P k v other [] fs g e = g e
found_by P k v other (x ∷ es) fs g e =
    found_split P k x.0 v x.1 (found k es other) fs.0 (λ h. found_by P k v other es fs.1 g h) (eqb k x.0) refl e

-- what holds of each entry of a table holds of what is listed
listed_is : {A B : Type 0} (f : A → B) (g : ℕ → B) (k : ℕ) (v : A) (es : List (ℕ × A)) → map (λ e. f e.1) es ≡ map (λ e. g e.0) es → listed k es ≡ Some v → f v ≡ g k
listed_is f g k v [] same e = absurd (cc)
listed_is f g k v (x ∷ es) same e =
    found_split (f v ≡ g k) k x.0 (Some v) (Some x.1) (listed k es) (λ q h. cc) (λ h. listed_is f g k v es (cc) h) (eqb k x.0) refl e

zero_is : (k : ℤ) → zero_z k ≡ true → k ≡ pos 0
zero_is (pos n) e = let h = leb-true n 0 (and_parts _ _ e).0 in let z : n ≡ 0 = omega arith in ap pos z
zero_is (negsuc n) e = absurd (cc)

sign_is : (k : ℤ) → le_z (pos 0) k ≡ true → k ≡ pos (mag k)
sign_is (pos n) e = refl
sign_is (negsuc n) e = absurd (cc)

-- a row that is kept only where its own head and number stand
kept_back : (w : RawRow) (b : Bool) (x r : Row) → (b ≡ true → Stands w x) → when b x ≡ Some r → Stands w r
kept_back w b x r own e = let k = when_is b x r e in rw (sym k.1) (own k.0)

blank_back : (w : RawRow) (r : Row) (b : Bool) → blank w ≡ b → cond b (bare w.kind) None ≡ Some r → Stands w r
blank_back w r true b e =
    let same = listed_is encoded bare_kind w.kind r bare_kinds refl e in
    record { same = grind (arith, zero_is); good = listed_is allowed (λ k. true) w.kind r bare_kinds refl e }
blank_back w r false b e = absurd (cc)

occurrence_back : (w : RawRow) (r : Row) → w.kind ≡ 5 → occurrence_of w ≡ Some r → Stands w r
occurrence_back w r q = kept_back w _ (Occurrence w.a (mag w.number)) r λ t.
    record { same = grind (arith, sign_is); good = grind (arith, sign_is) }

name_back : (w : RawRow) (r : Row) → w.kind ≡ 6 → when (only_name w) (Absence w.a) ≡ Some r → Stands w r
name_back w r q = kept_back w (only_name w) (Absence w.a) r λ t. record { same = grind (arith, zero_is); good = grind arith }

code_back : (w : RawRow) (n : ℕ) (x r : Row) → raw n w.a w.b (pos 0) ≡ encoded x → named w.b ≡ allowed x → w.kind ≡ n → when (only_code w) x ≡ Some r → Stands w r
code_back w n x r same good q = kept_back w (only_code w) x r λ t. record { same = grind (arith, zero_is); good = grind arith }

variable_back : (w : RawRow) (n : ℕ) (x r : Row) → raw n w.a 0 (pos 0) ≡ encoded x → allowed x ≡ true → w.kind ≡ n → when (only_variable w) x ≡ Some r → Stands w r
variable_back w n x r same good q = kept_back w (only_variable w) x r λ t. record { same = grind (arith, zero_is); good = good }

number_back : (w : RawRow) (r : Row) → w.kind ≡ 30 → when (only_number w) (Constant w.number) ≡ Some r → Stands w r
number_back w r q = kept_back w (only_number w) (Constant w.number) r λ t. record { same = grind arith; good = refl }

duration_is : (s : Side) (k : ℤ) → duration_allowed s k ≡ true → k ≡ pos (mag k)
duration_is After k e = sign_is k e
duration_is Before k e = sign_is k e
duration_is Given k e = let z = zero_is k e in z ∙ ap (λ m. pos (mag m)) (sym z)

-- a scope whose pick was found
picked : (w : RawRow) (s : Side) (p : Pick) (r : Row) → w.kind ≡ side_kind s → w.b ≡ pick_number p →
    when (named w.a && (eqb w.c 0 && duration_allowed s w.number)) (Scope s p w.a (mag w.number)) ≡ Some r → Stands w r
picked w s p r q b = kept_back w _ (Scope s p w.a (mag w.number)) r λ t. record { same = grind (arith, duration_is); good = grind (arith, duration_is) }

scope_from : (w : RawRow) (s : Side) (r : Row) → w.kind ≡ side_kind s → (o : Option Pick) → pick_of w.b ≡ o →
    ◌≡◌ {A = Option Row} (elim o [ None ↦ None | Some p ↦ when (named w.a && (eqb w.c 0 && duration_allowed s w.number)) (Scope s p w.a (mag w.number)) ]) (Some r) → Stands w r
scope_from w s r q None f e = absurd (cc)
scope_from w s r q (Some p) f e = picked w s p r q (sym (listed_is pick_number (λ k. k) w.b p picks refl f)) e

scope_back : (w : RawRow) (s : Side) (r : Row) → w.kind ≡ side_kind s → scope_of s w ≡ Some r → Stands w r
scope_back w s r q = scope_from w s r q (pick_of w.b) refl

back : (w : RawRow) (r : Row) → decoded w ≡ Some r → Stands w r
back w r e =
    found_by (Stands w r) w.kind (Some r) (cond (blank w) (bare w.kind) None) (field_kinds w) (
    occurrence_back w r
    also name_back w r
    also scope_back w After r
    also scope_back w Before r
    also scope_back w Given r
    also code_back w 10 (Quantify Forall w.a w.b) r refl refl
    also code_back w 11 (Quantify Exists w.a w.b) r refl refl
    also number_back w r
    also variable_back w 31 (Time w.a) r refl refl
    also code_back w 32 (Value w.a w.b) r refl refl
    also variable_back w 33 (Number w.a) r refl refl
    also tt)
    (blank_back w r (blank w) refl) e

pub coded_stands : Coded
coded_stands = record { there = there; back = back }
