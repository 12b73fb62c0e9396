-- The rules read so far, and where each of them starts.
use Rattle.std.proofs.Common.{◌≡◌, ℕ, ◌+◌, ◌<◌, ◌≤◌, List, [], ◌∷◌, ◌++◌, length, get_or, take, drop, Some, sym, refl, ap, ◌∙◌, append_assoc, append-nil, arith, below_more, inl, inr}
use Rattle.std.proofs.lemmas.List.{length-append, length-drop, length_push, drop_all, take_at, take-append-le, get_or_append_left, get_or_push}
use Rattle.std.specs.List.{slice_get}
use Rattle.std.proofs.lemmas.Bool.{cases_lt, lt-ltb, le-ltb}
use Rattle.std.proofs.lemmas.Option.{slice_get-get_or, slice_get_past}
use Rattle.rules.specs.declared.row.Row.{Row}
use Rattle.rules.specs.Trees.{Property, rows}
use Rattle.rules.specs.Forest.{rules_of, written}
use Rattle.rules.specs.Wanted.{Sorts, property}
use Rattle.rules.specs.Reading.{Spans}
use Rattle.rules.specs.Written.{start_of, started}
use Rattle.rules.proofs.Forests.{reads_rules}

-- the rows up to `at` write i rules, whose first rows stand in `starts`
pub record Begun (all : List Row) (at i : ℕ) (starts : List ℕ) : Type 0 where
  pub trees : List Property
  pub many : length trees ≡ i
  pub split : all ≡ written trees ++ drop at all
  pub here : at ≡ length (written trees)
  pub begun : (j : ℕ) → j < i → get_or starts j 0 ≡ length (written (take j trees))

pub written_append : (ps qs : List Property) → written (ps ++ qs) ≡ written ps ++ written qs
written_append [] qs = refl
written_append (p ∷ ps) qs = ap (λ rs. rows p ++ rs) (written_append ps qs) ∙ sym (append_assoc (rows p) (written ps) (written qs))

pub written_push : (ps : List Property) (p : Property) → written (ps ++ (p ∷ [])) ≡ written ps ++ rows p
written_push ps p = written_append ps (p ∷ []) ∙ ap (λ rs. written ps ++ rs) (append-nil (rows p))

module _ (all : List Row) (at i : ℕ) (starts : List ℕ) (many : length starts ≡ i) (k : Begun all at i starts) where
  module _ (η : Sorts) (next : ℕ) (s : Spans all at (property η) next) where
    abbrev p : Property
    p = s.fits.0

    abbrev more : List Property
    more = k.trees ++ (p ∷ [])

    cut : drop at all ≡ rows p ++ drop next all
    cut = s.split ∙ ap (λ rs. rs ++ drop next all) s.fits.2

    long : next ≡ length (written more)
    long =
        let e = simp (length-append, length-drop) at (ap length cut) in
        let h = k.here in
        let f = s.forward in
        let g = s.within in
        let w = simp length-append at (ap length (written_push k.trees p)) in
        omega arith

    before : (j : ℕ) → j < i → get_or (starts ++ (at ∷ [])) j 0 ≡ length (written (take j more))
    before j h =
        let m = k.many in
        let l = many in
        get_or_append_left starts (at ∷ []) 0 j (omega arith) ∙ (k.begun j h ∙ ap (λ ps. length (written ps)) (sym (take-append-le j k.trees (p ∷ []) (omega arith))))

    newest : get_or (starts ++ (at ∷ [])) i 0 ≡ length (written (take i more))
    newest = get_or_push starts at 0 i many ∙ (k.here ∙ ap (λ ps. length (written ps)) (sym (take_at k.trees (p ∷ []) i k.many)))

    pub begun_more : Begun all next (i + 1) (starts ++ (at ∷ []))
    begun_more = record {
      trees = more;
      many = length_push k.trees p ∙ ap (λ n. n + 1) k.many;
      split = k.split ∙ (ap (λ rs. written k.trees ++ rs) cut ∙ (sym (append_assoc (written k.trees) (rows p) (drop next all)) ∙ ap (λ rs. rs ++ drop next all) (sym (written_push k.trees p))));
      here = long;
      begun = below_more _ _ before newest;
    }

  module _ (h : length all ≤ at) where
    begun_all : (j : ℕ) → j < i → get_or starts j 0 ≡ start_of all j
    begun_all j l =
        let spelt : all ≡ written k.trees = k.split ∙ (ap (λ rs. written k.trees ++ rs) (drop_all at all h) ∙ append-nil (written k.trees)) in
        let same : rules_of all ≡ k.trees = ap rules_of spelt ∙ reads_rules k.trees in
        k.begun j l ∙ ap (λ ps. length (written (take j ps))) (sym same)

    pub starts_found : (j : ℕ) → slice_get starts j ≡ started i all j
    starts_found j =
        let l = many in
        elim (cases_lt j i) [
          | inl within ↦ rw (lt-ltb _ _ within) (slice_get-get_or starts j 0 (omega arith) ∙ ap Some (begun_all j within))
          | inr past ↦ rw (le-ltb _ _ past) (slice_get_past starts j (omega arith))
        ]
