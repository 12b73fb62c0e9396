-- Where the rules of a sheet stand in its rows.
use Rattle.std.proofs.Common.{◌≡◌, ℕ, ◌+◌, ◌-◌, ◌<◌, ◌≤◌, true, List, ◌++◌, length, take, drop, Some, None, Option, unwrap_or, sym, refl, ap, ◌∙◌, arith, inl, inr}
use Rattle.std.proofs.lemmas.Bool.{cases_lt, lt-ltb, le-ltb}
use Rattle.std.proofs.lemmas.List.{length-append, take_more, take_all, take_at, take-append-drop, drop_more, drop_at}
use Rattle.rules.specs.declared.row.Row.{Row}
use Rattle.rules.specs.Trees.{Property, absence, always, rows, Begins}
use Rattle.rules.specs.Forest.{rules_of, written}
use Rattle.rules.specs.Lawful.{Lawful, missing}
use Rattle.rules.specs.Layout.{rules_wanted}
use Rattle.rules.specs.Wanted.{first_bad}
use Rattle.rules.specs.Written.{rule_at, start_of, started}
use Rattle.rules.proofs.Begun.{written_append, written_push}
use Rattle.rules.proofs.Taken.{Writes, taken_stands}

none_bad : (o : Option ℕ) → missing o ≡ true → o ≡ None
none_bad None e = refl
none_bad (Some bad) e = absurd (cc)

pub lawful_writes : (all : List Row) (rules : ℕ) → Lawful all rules → Writes all rules
lawful_writes all rules h = taken_stands.writes all rules (none_bad (first_bad 0 all (rules_wanted rules)) h)

module _ (all : List Row) (rules : ℕ) (w : Writes all rules) where
  -- behind the last rule nothing is left
  pub start_last : start_of all rules ≡ length all
  start_last =
      let many = w.many in
      ap (λ ps. length (written ps)) (take_all rules (rules_of all) (omega arith)) ∙ ap length w.spelt

  module _ (i : ℕ) (within : i < rules) where
    abbrev rule : Property
    rule = rule_at all i

    abbrev before : List Property
    before = take i (rules_of all)

    abbrev behind : List Property
    behind = drop (i + 1) (rules_of all)

    there : i < length (rules_of all)
    there = let many = w.many in omega arith

    whole : all ≡ written before ++ (rows rule ++ written behind)
    whole =
        sym w.spelt
        ∙ (ap written (sym (take-append-drop i (rules_of all)))
        ∙ (written_append before (drop i (rules_of all)) ∙ ap (λ ps. written before ++ written ps) (drop_more (rules_of all) i (absence 0 always) there)))

    from_start : drop (start_of all i) all ≡ rows rule ++ written behind
    from_start = ap (drop (start_of all i)) whole ∙ drop_at (written before) (rows rule ++ written behind) (start_of all i) refl

    pub begins : Begins all (start_of all i) (rows rule)
    begins = record { rest = written behind; split = from_start }

    pub start_more : start_of all (i + 1) ≡ start_of all i + length (rows rule)
    start_more =
        ap (λ ps. length (written ps)) (take_more (rules_of all) i (absence 0 always) there)
        ∙ (ap length (written_push before rule) ∙ length-append (written before) (rows rule))

    pub start_within : start_of all (i + 1) ≤ length all
    start_within = let long = simp length-append at (ap length whole) in let more = start_more in omega arith

    -- where the next rule starts, or all rows end
    pub start_next : unwrap_or (started rules all (i + 1)) (length all) ≡ start_of all (i + 1)
    start_next =
        elim (cases_lt (i + 1) rules) [
          | inl more ↦ rw (lt-ltb _ _ more) refl
          | inr last ↦ let same : rules ≡ i + 1 = omega arith in rw (le-ltb _ _ last) (sym start_last ∙ ap (start_of all) same)
        ]

    -- the rows up to the next rule are those of the rule
    pub rows_between : take (start_of all (i + 1) - start_of all i) (drop (start_of all i) all) ≡ rows rule
    rows_between =
        let more = start_more in
        ap (take (start_of all (i + 1) - start_of all i)) from_start ∙ take_at (rows rule) (written behind) _ (omega arith)
