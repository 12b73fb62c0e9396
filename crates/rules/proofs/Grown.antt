-- Each row that is taken grows a tree from the trees of its parts.
use Rattle.std.proofs.Common.{◌≡◌, Bool, true, false, cond, ◌&&◌, List, [], ◌∷◌, ◌++◌, Some, None, Option, refl, ap, ap₂}
use Rattle.std.proofs.lemmas.Bool.{and_from}
use Rattle.rules.specs.declared.known.Sort.TheVariants as sort
use Rattle.rules.specs.declared.read.Part.{Part}
use Rattle.rules.specs.declared.read.Part.TheVariants as part
use Rattle.rules.specs.declared.row.Row.{Row}
use Rattle.rules.specs.declared.row.Row.TheVariants.{Not, Connect, Occurrence, Absence, Scope, Quantify, True, NotTest, Join, Compare, Constant, Time, Value, Number, Reckon}
use Rattle.rules.specs.Trees.{constant, time_of, value_of, number_of, reckon, always, not_t, join, compare, not_p, connect, occurrence, absence, scope, quantify}
use Rattle.rules.specs.Decoded.{when}
use Rattle.rules.specs.Wanted.{Sorts, Wanted, property, test, term, part_of, same_part, wants, followed, known_as, room_in, ◌⊕◌}
use Rattle.rules.specs.Reading.{Fits}

-- what a row grows into, by what it wants behind it
abbrev pub Grown : Wanted → Row → Option (List Wanted) → Type 0
Grown w r None = Unit {0}
Grown w r (Some []) = Fits w (r ∷ [])
Grown w r (Some (a ∷ [])) = (xs : List Row) → Fits a xs → Fits w (r ∷ xs)
Grown w r (Some (a ∷ b ∷ [])) = (xs ys : List Row) → Fits a xs → Fits b ys → Fits w (r ∷ (xs ++ ys))
Grown w r (Some (a ∷ b ∷ c ∷ ws)) = ⊥

grown_when : (w : Wanted) (r : Row) (b : Bool) (ws : List Wanted) → (b ≡ true → Grown w r (Some ws)) → Grown w r (when b ws)
grown_when w r true ws f = f refl
grown_when w r false ws f = tt

cons_two : (r : Row) {xs ys us vs : List Row} → xs ≡ us → ys ≡ vs → ◌≡◌ {A = List Row} (r ∷ (xs ++ ys)) (r ∷ (us ++ vs))
cons_two r e f = ap₂ (λ x y. r ∷ (x ++ y)) e f

abbrev want : Part → Sorts → Wanted
want p η = record { part = p; known = η }

grown_row : (η : Sorts) (r : Row) → Grown (want (part_of r) η) r (wants η r)
grown_row η Not = λ xs f. (not_p f.0, f.1, ap (λ x. Not ∷ x) f.2)
grown_row η (Connect c) = λ xs ys f g. (connect c f.0 g.0, and_from _ _ f.1 g.1, cons_two (Connect c) f.2 g.2)
grown_row η (Occurrence a n) = grown_when (property η) (Occurrence a n) (room_in η) (test (η ⊕ sort.Event) ∷ []) (λ h xs f. (occurrence a n f.0, and_from _ _ h f.1, ap (λ x. Occurrence a n ∷ x) f.2))
grown_row η (Absence a) = grown_when (property η) (Absence a) (room_in η) (test (η ⊕ sort.Event) ∷ []) (λ h xs f. (absence a f.0, and_from _ _ h f.1, ap (λ x. Absence a ∷ x) f.2))
grown_row η (Scope s o a d) = grown_when (property η) (Scope s o a d) (room_in η) (test (η ⊕ sort.Event) ∷ property (η ⊕ sort.Event) ∷ []) (λ h xs ys f g. (scope s o a d f.0 g.0, and_from _ _ h (and_from _ _ f.1 g.1), cons_two (Scope s o a d) f.2 g.2))
grown_row η (Quantify q a b) = grown_when (property η) (Quantify q a b) (known_as sort.Event η a && room_in η) (property (η ⊕ sort.Number) ∷ []) (λ h xs f. (quantify q a b f.0, and_from _ _ h f.1, ap (λ x. Quantify q a b ∷ x) f.2))
grown_row η True = (always, refl, refl)
grown_row η NotTest = λ xs f. (not_t f.0, f.1, ap (λ x. NotTest ∷ x) f.2)
grown_row η (Join j) = λ xs ys f g. (join j f.0 g.0, and_from _ _ f.1 g.1, cons_two (Join j) f.2 g.2)
grown_row η (Compare s) = λ xs ys f g. (compare s f.0 g.0, and_from _ _ f.1 g.1, cons_two (Compare s) f.2 g.2)
grown_row η (Constant k) = (constant k, refl, refl)
grown_row η (Time a) = grown_when (term η) (Time a) (known_as sort.Event η a) [] (λ h. (time_of a, h, refl))
grown_row η (Value a b) = grown_when (term η) (Value a b) (known_as sort.Event η a) [] (λ h. (value_of a b, h, refl))
grown_row η (Number a) = grown_when (term η) (Number a) (known_as sort.Number η a) [] (λ h. (number_of a, h, refl))
grown_row η (Reckon o) = λ xs ys f g. (reckon o f.0 g.0, and_from _ _ f.1 g.1, cons_two (Reckon o) f.2 g.2)

-- where another part is wanted, the row is not taken
grown_as : (p q : Part) (η : Sorts) (r : Row) (o : Option (List Wanted)) → Grown (want q η) r o → Grown (want p η) r (cond (same_part p q) o None)
grown_as part.Property part.Property η r o g = g
grown_as part.Property part.Test η r o g = tt
grown_as part.Property part.Term η r o g = tt
grown_as part.Test part.Property η r o g = tt
grown_as part.Test part.Test η r o g = g
grown_as part.Test part.Term η r o g = tt
grown_as part.Term part.Property η r o g = tt
grown_as part.Term part.Test η r o g = tt
grown_as part.Term part.Term η r o g = g

pub grown : (w : Wanted) (r : Row) (o : Option (List Wanted)) → o ≡ followed w r → Grown w r o
grown w r o e = rw e (grown_as w.part (part_of r) w.known r (wants w.known r) (grown_row w.known r))
