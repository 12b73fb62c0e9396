-- The first row of a tree tells what tree it is.
use Rattle.std.proofs.Common.{◌≡◌, ℕ, ◌+◌, ◌<◌, List, ◌∷◌, ◌++◌, length, get_or, refl}
use Rattle.rules.specs.declared.row.Row.{Row}
use Rattle.rules.specs.declared.row.Row.TheVariants.{Not, Connect, Occurrence, Absence, Scope, Quantify, True, NotTest, Join, Compare, Constant, Time, Value, Number, Reckon}
use Rattle.rules.specs.Trees.{Term, constant, time_of, value_of, number_of, reckon, Test, always, not_t, join, compare, Property, not_p, connect, occurrence, absence, scope, quantify, term_rows, test_rows, rows, Begins}
use Rattle.rules.proofs.Fronts.{front_within, front_row, front_rest, front_left, front_right}

-- what a tree of two parts is made of, and where its parts begin
pub record Parts {A B C : Type 0} (first_rows : A → List Row) (second_rows : B → List Row) (all : List Row) (at : ℕ) (build : A → B → C) (whole : C) : Type 0 where
  pub first : A
  pub second : B
  pub is : whole ≡ build first second
  pub left : Begins all (at + 1) (first_rows first)
  pub right : Begins all (at + 1 + length (first_rows first)) (second_rows second)

module _ (all : List Row) (at : ℕ) where
  two : {A B C : Type 0} {f : A → List Row} {g : B → List Row} {build : A → B → C} (r : Row) (x : A) (y : B) → Begins all at (r ∷ (f x ++ g y)) → Parts f g all at build (build x y)
  two {f = f} {g = g} r x y b =
      let rest = front_rest all at r (f x ++ g y) b r in
      record { first = x; second = y; is = refl; left = front_left all (at + 1) (f x) (g y) rest; right = front_right all (at + 1) (f x) (g y) rest }

  -- the term that begins with a row, and its parts
  abbrev pub TermBy : Row → Term → Type 0
  TermBy (Constant k) t = t ≡ constant k
  TermBy (Time a) t = t ≡ time_of a
  TermBy (Value a b) t = t ≡ value_of a b
  TermBy (Number a) t = t ≡ number_of a
  TermBy (Reckon o) t = Parts term_rows term_rows all at (reckon o) t
  TermBy Not t = ⊥
  TermBy (Connect c) t = ⊥
  TermBy (Occurrence a n) t = ⊥
  TermBy (Absence a) t = ⊥
  TermBy (Scope s o a d) t = ⊥
  TermBy (Quantify q a b) t = ⊥
  TermBy True t = ⊥
  TermBy NotTest t = ⊥
  TermBy (Join j) t = ⊥
  TermBy (Compare s) t = ⊥

  -- the test that begins with a row, and its parts
  abbrev pub TestBy : Row → Test → Type 0
  TestBy True t = t ≡ always
  TestBy NotTest t = (u : Test) × (t ≡ not_t u) × Begins all (at + 1) (test_rows u)
  TestBy (Join j) t = Parts test_rows test_rows all at (join j) t
  TestBy (Compare s) t = Parts term_rows term_rows all at (compare s) t
  TestBy Not t = ⊥
  TestBy (Connect c) t = ⊥
  TestBy (Occurrence a n) t = ⊥
  TestBy (Absence a) t = ⊥
  TestBy (Scope s o a d) t = ⊥
  TestBy (Quantify q a b) t = ⊥
  TestBy (Constant k) t = ⊥
  TestBy (Time a) t = ⊥
  TestBy (Value a b) t = ⊥
  TestBy (Number a) t = ⊥
  TestBy (Reckon o) t = ⊥

  -- the property that begins with a row, and its parts
  abbrev pub PropertyBy : Row → Property → Type 0
  PropertyBy Not p = (q : Property) × (p ≡ not_p q) × Begins all (at + 1) (rows q)
  PropertyBy (Connect c) p = Parts rows rows all at (connect c) p
  PropertyBy (Occurrence a n) p = (t : Test) × (p ≡ occurrence a n t) × Begins all (at + 1) (test_rows t)
  PropertyBy (Absence a) p = (t : Test) × (p ≡ absence a t) × Begins all (at + 1) (test_rows t)
  PropertyBy (Scope s o a d) p = Parts test_rows rows all at (scope s o a d) p
  PropertyBy (Quantify q a b) p = (inner : Property) × (p ≡ quantify q a b inner) × Begins all (at + 1) (rows inner)
  PropertyBy True p = ⊥
  PropertyBy NotTest p = ⊥
  PropertyBy (Join j) p = ⊥
  PropertyBy (Compare s) p = ⊥
  PropertyBy (Constant k) p = ⊥
  PropertyBy (Time a) p = ⊥
  PropertyBy (Value a b) p = ⊥
  PropertyBy (Number a) p = ⊥
  PropertyBy (Reckon o) p = ⊥

  module _ (d : Row) where
    term_at_lem : (t : Term) → Begins all at (term_rows t) → TermBy (get_or all at d) t
    term_at_lem (constant k) b = rw (front_row all at _ _ b d) refl
    term_at_lem (time_of a) b = rw (front_row all at _ _ b d) refl
    term_at_lem (value_of a c) b = rw (front_row all at _ _ b d) refl
    term_at_lem (number_of a) b = rw (front_row all at _ _ b d) refl
    term_at_lem (reckon o t u) b = rw (front_row all at _ _ b d) (two (Reckon o) t u b)

    test_at_lem : (t : Test) → Begins all at (test_rows t) → TestBy (get_or all at d) t
    test_at_lem always b = rw (front_row all at _ _ b d) refl
    test_at_lem (not_t t) b = rw (front_row all at _ _ b d) (t, refl, front_rest all at _ _ b d)
    test_at_lem (join j t u) b = rw (front_row all at _ _ b d) (two (Join j) t u b)
    test_at_lem (compare s t u) b = rw (front_row all at _ _ b d) (two (Compare s) t u b)

    property_at_lem : (p : Property) → Begins all at (rows p) → PropertyBy (get_or all at d) p
    property_at_lem (not_p p) b = rw (front_row all at _ _ b d) (p, refl, front_rest all at _ _ b d)
    property_at_lem (connect c p q) b = rw (front_row all at _ _ b d) (two (Connect c) p q b)
    property_at_lem (occurrence a n t) b = rw (front_row all at _ _ b d) (t, refl, front_rest all at _ _ b d)
    property_at_lem (absence a t) b = rw (front_row all at _ _ b d) (t, refl, front_rest all at _ _ b d)
    property_at_lem (scope s o a l t p) b = rw (front_row all at _ _ b d) (two (Scope s o a l) t p b)
    property_at_lem (quantify q a c p) b = rw (front_row all at _ _ b d) (p, refl, front_rest all at _ _ b d)

    -- the same, of a row that was read
    pub term_by : (r : Row) → get_or all at d ≡ r → (t : Term) → Begins all at (term_rows t) → TermBy r t
    term_by r read t b = rw read at (term_at_lem t b)

    pub test_by : (r : Row) → get_or all at d ≡ r → (t : Test) → Begins all at (test_rows t) → TestBy r t
    test_by r read t b = rw read at (test_at_lem t b)

    pub property_by : (r : Row) → get_or all at d ≡ r → (p : Property) → Begins all at (rows p) → PropertyBy r p
    property_by r read p b = rw read at (property_at_lem p b)

  pub term_within : (t : Term) → Begins all at (term_rows t) → at < length all
  term_within (constant k) b = front_within all at _ _ b
  term_within (time_of a) b = front_within all at _ _ b
  term_within (value_of a c) b = front_within all at _ _ b
  term_within (number_of a) b = front_within all at _ _ b
  term_within (reckon o t u) b = front_within all at _ _ b

  pub test_within : (t : Test) → Begins all at (test_rows t) → at < length all
  test_within always b = front_within all at _ _ b
  test_within (not_t t) b = front_within all at _ _ b
  test_within (join j t u) b = front_within all at _ _ b
  test_within (compare s t u) b = front_within all at _ _ b

  pub property_within : (p : Property) → Begins all at (rows p) → at < length all
  property_within (not_p p) b = front_within all at _ _ b
  property_within (connect c p q) b = front_within all at _ _ b
  property_within (occurrence a n t) b = front_within all at _ _ b
  property_within (absence a t) b = front_within all at _ _ b
  property_within (scope s o a d t p) b = front_within all at _ _ b
  property_within (quantify q a c p) b = front_within all at _ _ b

  -- no term begins with a row of another kind
  pub no_term : (d : Row) (t : Term) → Begins all at (term_rows t) →
      ((k : _) → get_or all at d ≡ Constant k → ⊥) → ((a : ℕ) → get_or all at d ≡ Time a → ⊥) → ((a b : ℕ) → get_or all at d ≡ Value a b → ⊥) →
      ((a : ℕ) → get_or all at d ≡ Number a → ⊥) → ((o : _) → get_or all at d ≡ Reckon o → ⊥) → ⊥
  no_term d (constant k) b nc nt nv nn nr = nc k (front_row all at _ _ b d)
  no_term d (time_of a) b nc nt nv nn nr = nt a (front_row all at _ _ b d)
  no_term d (value_of a c) b nc nt nv nn nr = nv a c (front_row all at _ _ b d)
  no_term d (number_of a) b nc nt nv nn nr = nn a (front_row all at _ _ b d)
  no_term d (reckon o t u) b nc nt nv nn nr = nr o (front_row all at _ _ b d)

  -- no test begins with a row of another kind
  pub no_test : (d : Row) (t : Test) → Begins all at (test_rows t) →
      (get_or all at d ≡ True → ⊥) → (get_or all at d ≡ NotTest → ⊥) → ((j : _) → get_or all at d ≡ Join j → ⊥) → ((s : _) → get_or all at d ≡ Compare s → ⊥) → ⊥
  no_test d always b ny nn nj nc = ny (front_row all at _ _ b d)
  no_test d (not_t t) b ny nn nj nc = nn (front_row all at _ _ b d)
  no_test d (join j t u) b ny nn nj nc = nj j (front_row all at _ _ b d)
  no_test d (compare s t u) b ny nn nj nc = nc s (front_row all at _ _ b d)
