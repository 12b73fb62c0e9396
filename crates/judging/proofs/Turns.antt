-- Each turn of a judging leaves what is answered in the end, and comes nearer to it.
use Rattle.std.proofs.Common.{◌≡◌, ℕ, suc, ◌+◌, ◌-◌, ◌*◌, ◌<◌, ◌≤◌, Bool, true, false, cond, eqb, List, ◌∷◌, length, get_or, take, None, Option, sym, refl, ap, ◌∙◌, subst, ap₂, mul-le-mul_right, add-mul, one-mul, arith}
use Rattle.std.proofs.lemmas.List.{take_all, length_push}
use Rattle.std.proofs.lemmas.Bool.{and_parts, ltb-true}
use Rattle.logs.specs.declared.event.Event.{Event}
use Rattle.logs.specs.Events.{event_at}
use Rattle.logs.specs.Lawful.{time_at}
use Rattle.rules.specs.declared.row.Connective.{Connective}
use Rattle.rules.specs.declared.row.Pick.{Pick}
use Rattle.rules.specs.declared.row.Row.{Row}
use Rattle.rules.specs.declared.row.Row.TheVariants.{Not, Connect, Occurrence, Absence, Scope, Quantify}
use Rattle.rules.specs.declared.row.Side.{Side}
use Rattle.rules.specs.declared.row.Side.TheVariants.{After, Before, Given}
use Rattle.rules.specs.declared.known.Sort.TheVariants as sort
use Rattle.rules.specs.Trees.{Test, Property, not_p, connect, occurrence, absence, scope, quantify, rows, test_rows, reach_of, Begins}
use Rattle.rules.specs.Forest.{property_at, test_at}
use Rattle.rules.specs.Wanted.{Sorts, ◌⊕◌ as ◌with◌}
use Rattle.rules.specs.Scoped.{scoped as well_scoped}
use Rattle.rules.proofs.Fronts.{front_row}
use Rattle.rules.proofs.Heads.{property_by, PropertyBy, property_within, test_within}
use Rattle.rules.proofs.Parts.{property_is, test_is, test_begins}
use Rattle.meaning.specs.declared.verdict.Origin.{Origin}
use Rattle.meaning.specs.declared.verdict.Variable.TheVariants as var
use Rattle.meaning.specs.declared.verdict.Verdict.{Verdict}
use Rattle.meaning.specs.declared.verdict.Verdict.TheVariants.{Holds, Fails}
use Rattle.meaning.specs.Three.{count}
use Rattle.meaning.specs.Terms.{Variables, ◌⊕◌, asked, bound, event_in}
use Rattle.meaning.specs.Windows.{Window, window, places, near}
use Rattle.meaning.specs.Verdicts.{connected, quantified, scoped, judged}
use Rattle.std.specs.declared.ops.ControlFlow.{ControlFlow}
use Rattle.std.specs.declared.ops.ControlFlow.TheVariants.{Break, Continue}
use Rattle.judging.specs.declared.working.Found.{Found}
use Rattle.judging.specs.declared.working.JudgingRow.{JudgingRow}
use Rattle.judging.specs.declared.working.JudgingRow.TheVariants.{Left, Values, Places}
use Rattle.judging.specs.declared.working.PlacesRow.{PlacesRow}
use Rattle.judging.specs.declared.working.Quantifying.{Quantifying}
use Rattle.judging.specs.declared.working.ValuesRow.{ValuesRow}
use Rattle.judging.specs.declared.working.Scoping.{Scoping}
use Rattle.judging.specs.declared.working.Turn.{Turn}
use Rattle.judging.specs.declared.working.Turn.TheVariants.{Ask}
use Rattle.judging.specs.Seeking.{delimiter_test, FoundAt}
use Rattle.meaning.specs.Terms.{coded_from}
use Rattle.judging.specs.Sweeps.{order, doubted, absorbed, needed, swept}
use Rattle.judging.specs.Machine.{start, judged_at, inner, sweeping, continued, gathering, resume, worth, steps, steps_at, pending, turns_left, depth_of, Standing, ValuesReady, PlacesReady, RightReady, Waits, Asking, Onward}
use Rattle.judging.specs.Extents.{Ends}
use Rattle.judging.proofs.Binding.{forgotten}
use Rattle.judging.proofs.Counting.{count_few, places_many}
use Rattle.judging.proofs.Endings.{test_part, property_part, part_place}
use Rattle.judging.proofs.Folding.{combined_start}
use Rattle.judging.proofs.Sweeps.{sweeps}

-- no property begins with a row of another kind
pub no_property : (all : List Row) (at : ℕ) (d : Row) (p : Property) → Begins all at (rows p) →
    (get_or all at d ≡ Not → ⊥) → ((c : _) → get_or all at d ≡ Connect c → ⊥) → ((a n : ℕ) → get_or all at d ≡ Occurrence a n → ⊥) → ((a : ℕ) → get_or all at d ≡ Absence a → ⊥) →
    ((s : _) (o : _) (a l : ℕ) → get_or all at d ≡ Scope s o a l → ⊥) → ((q : _) (a b : ℕ) → get_or all at d ≡ Quantify q a b → ⊥) → ⊥
no_property all at d (not_p p) b nn nc ny na ns nq = nn (front_row all at _ _ b d)
no_property all at d (connect c p q) b nn nc ny na ns nq = nc c (front_row all at _ _ b d)
no_property all at d (occurrence a n t) b nn nc ny na ns nq = ny a n (front_row all at _ _ b d)
no_property all at d (absence a t) b nn nc ny na ns nq = na a (front_row all at _ _ b d)
no_property all at d (scope s o a l t p) b nn nc ny na ns nq = ns s o a l (front_row all at _ _ b d)
no_property all at d (quantify q a v p) b nn nc ny na ns nq = nq q a v (front_row all at _ _ b d)

pub standing : (all : List Row) (m at n room : ℕ) (p : Property) → Begins all at (rows p) → (sorts : Sorts) → length sorts ≡ m → well_scoped sorts p ≡ true → n + depth_of p ≤ room → Standing all m at n room
standing all m at n room p b sorts many fits deep =
    let e = sym (property_is all at p b) in
    record {
      begins = subst (λ q. Begins all at (rows q)) e b;
      sorts = sorts;
      many = many;
      fits = subst (λ q. well_scoped sorts q ≡ true) e fits;
      deep = subst (λ q. n + depth_of q ≤ room) e deep;
    }

-- the rows of a property enclose one another no deeper than there are property rows
pub depth_reach : (p : Property) → depth_of p ≤ reach_of p
depth_reach (not_p p) = let a = depth_reach p in omega arith
depth_reach (connect c p q) = let a = depth_reach p in let b = depth_reach q in omega arith
depth_reach (occurrence a n t) = omega arith
depth_reach (absence a t) = omega arith
depth_reach (scope s o a d t p) = let a = depth_reach p in omega arith
depth_reach (quantify q a b p) = let a = depth_reach p in omega arith

kept : (η : Variables) → take (length η) η ≡ η
kept η = take_all (length η) η (omega arith)

-- one more try is paid for
paid : (n k b : ℕ) → n < k → b + (1 + n * (1 + b)) < 1 + k * (1 + b)
paid n k b h =
    let a = add-mul n 1 (1 + b) in
    let c = one-mul (1 + b) in
    let d : (n + 1) * (1 + b) ≤ k * (1 + b) = mul-le-mul_right (1 + b) (omega arith) in
    omega arith

count_within : (q : ℕ → Bool) (from to : ℕ) → from ≤ to → from + count q (places from to) ≤ to
count_within q from to h = let a = count_few q (places from to) in let b = places_many from to in omega arith

-- the window of a scope ends within its own
pub window_inside : (s : Side) (t : ℕ → ℕ) (d i : ℕ) (w : Window) → i < w.1 → (window s t d i w).1 ≤ w.1
window_inside After t d i w h = go (eqb d 0)
  where
    go : (b : Bool) → cond b w.1 (i + 1 + count (λ j. near d (t i) (t j)) (places (i + 1) w.1)) ≤ w.1
    go true = omega arith
    go false = count_within (λ j. near d (t i) (t j)) (i + 1) w.1 (omega arith)
window_inside Before t d i w h = omega arith
window_inside Given t d i w h = omega arith

-- the first of the places still to be tried, where its test is other than no
sweep_on : (o : Pick) (f p : ℕ → Verdict) (d : Option Origin) (s : Verdict) (i : ℕ) (is : List ℕ) (v : Verdict) → v ≡ f i → needed o s v ≡ true →
    swept o f p d s (i ∷ is) ≡ elim (absorbed o v (doubted o v d) s (p i)) [ Break u ↦ u | Continue u ↦ swept o f p (doubted o v d) u is ]
sweep_on o f p d s i is v e h =
    ap (λ x. cond (needed o s x) (elim (absorbed o x (doubted o x d) s (p i)) [ Break u ↦ u | Continue u ↦ swept o f p (doubted o x d) u is ]) (swept o f p d s is)) (sym e)
    ∙ ap (λ b. cond b (elim (absorbed o v (doubted o v d) s (p i)) [ Break u ↦ u | Continue u ↦ swept o f p (doubted o v d) u is ]) (swept o f p d s is)) h

-- a scope at the delimiter that was found
abbrev pub tried : Scoping → Window → (depth : ℕ) → Found → Option Origin → Verdict → PlacesRow
tried sc w d x low u = record { scoping = sc; window = w; depth = d; left = x.left; test = x.test; lowest = low; verdict = u }

module _ (es : List Event) (rs : List Row) (room : ℕ) where
  goes_on : (sc : Scoping) (η : Variables) (w : Window) (d : Option Origin) (left : Window) (x : ControlFlow Verdict Verdict) →
      elim x [ Break u ↦ u | Continue u ↦ swept sc.pick (delimiter_test es rs sc η) (inner es rs sc η w) d u (order sc.pick left) ] ≡ continued es rs sc η w d left x
  goes_on sc η w d left (Break u) = refl
  goes_on sc η w d left (Continue u) = refl

  -- At the places of a scope that are still to be tried.
  module _ (η : Variables) (s : List JudgingRow) (sc : Scoping) (w left : Window) (low : Option Origin) (u : Verdict)
      (ready : PlacesReady es rs room (length η) (length s) sc w left) (waits : Waits es rs room η s) where
    abbrev pub Trying : Variables → Turn → List JudgingRow → Type 0
    Trying θ t r =
        Onward es rs room θ t r (resume es rs η s (sweeping es rs sc η w low u left)) (1 + ((left.1 - left.0) * (1 + steps_at rs sc.body) + pending rs s))

    pub next_found : (x : Found) (θ : Variables) → FoundAt es rs sc u left η θ x →
        Trying θ (Ask sc.body (window sc.side (time_at es) sc.duration x.place w)) (Places (tried sc w (length η) x (doubted sc.pick x.test low) u) ∷ s)
    next_found x θ k =
        let e = var.Event (event_at es x.place) in
        let o = sc.pick in
        let f = delimiter_test es rs sc η in
        let p = inner es rs sc η w in
        let d = doubted o x.test low in
        let b = ready.body in
        let i = k.inside in
        let j = ready.within in
        let l = k.fewer.inside in
        let inside = window_inside sc.side (time_at es) sc.duration x.place w (omega arith) in
        let z = ready.inside in
        let long : length (η ⊕ e) ≡ length η + 1 = length_push η e in
        let one : length s + 1 ≡ suc (length s) = omega arith in
        let cost = paid (x.left.1 - x.left.0) (left.1 - left.0) (steps_at rs sc.body) k.fewer.less in
        let next : Trying (η ⊕ e) (Ask sc.body (window sc.side (time_at es) sc.duration x.place w)) (Places (tried sc w (length η) x d u) ∷ s)
        = record {
          valid = record {
            stands = subst (λ m. Standing rs m sc.body (suc (length s)) room) (sym long) (subst (λ n. Standing rs (length η + 1) sc.body n room) one b);
            inside = omega arith;
            waits = subst (λ ζ. PlacesReady es rs room (length ζ) (length s) sc w x.left × Waits es rs room ζ s) (sym (forgotten η e))
                (record { body = b; test = ready.test; space = ready.space; inside = z; within = omega arith }, waits);
          };
          same = ap (λ ζ. resume es rs ζ s (continued es rs sc ζ w d x.left (absorbed o x.test d u (p x.place)))) (forgotten η e)
              ∙ ap (resume es rs η s) (sym (goes_on sc η w d x.left (absorbed o x.test d u (p x.place))) ∙ sym (sweep_on o f p low u x.place (order o x.left) x.test k.test k.counts) ∙ sym (k.same p low));
          nearer = omega arith;
        } in
        rw k.bound next

  -- At a row of a connective, a scope or a quantifier.
  module _ (η : Variables) (at : ℕ) (w : Window) (s : List JudgingRow) (ok : Asking es rs room η at w s) (d : Row) where
    abbrev From : (room : ℕ) → Variables → Turn → List JudgingRow → Type 0
    From n θ t r = Onward es rs n θ t r (worth es rs η (Ask at w) s) (turns_left rs (Ask at w) s)

    module _ {c : Connective} (is : get_or rs at d ≡ Connect c) {ends : List ℕ} (ended : Ends rs ends) where
      pub from_connect : From room η (Ask (at + 1) w) (Left (record { connective = c; right = get_or ends (at + 1) 0; window = w; depth = length η }) ∷ s)
      from_connect =
          let k = ok.stands in
          let b = property_by rs at d _ is _ k.begins in
          let right = get_or ends (at + 1) 0 in
          let place = part_place rs ends (at + 1) (rows b.first) ended (property_part b.first) b.left (property_within rs (at + 1) b.first b.left) in
          let second = subst (λ i. Begins rs i (rows b.second)) (sym place) b.right in
          let i = property_is rs (at + 1) b.first b.left in
          let j = property_is rs right b.second second in
          let deep = subst (λ x. length s + depth_of x ≤ room) b.is k.deep in
          let fits = and_parts _ _ (subst (λ x. well_scoped k.sorts x ≡ true) b.is k.fits) in
          let before : steps_at rs at ≡ 3 + (steps b.first + steps b.second) = ap steps b.is in
          let one : steps_at rs (at + 1) ≡ steps b.first = ap steps i in
          let two : steps_at rs right ≡ steps b.second = ap steps j in
          record {
            valid = record {
              stands = standing rs (length η) (at + 1) (suc (length s)) room b.first b.left k.sorts k.many fits.0 (omega arith);
              inside = ok.inside;
              waits = subst (λ θ. RightReady es rs room (length θ) (length s) right w × Waits es rs room θ s) (sym (kept η))
                  (record { side = standing rs (length η) right (length s + 1) room b.second second k.sorts k.many fits.1 (omega arith); inside = ok.inside }, ok.waits);
            };
            same = ap (λ θ. resume es rs θ s (connected c (judged_at es rs η w (at + 1)) (judged_at es rs θ w right))) (kept η)
                ∙ ap₂ (λ x y. resume es rs η s (connected c (judged es η w (at + 1) x) (judged es η w right y))) i j
                ∙ ap (λ r. resume es rs η s (connected c (judged es η w (at + 1) b.first) (judged es η w r b.second))) place
                ∙ sym (ap (λ x. resume es rs η s (judged es η w at x)) b.is);
            nearer = omega arith;
          }

    module _ {sc : Scoping} {x : PlacesRow} (new : x ≡ record { scoping = sc; window = w; depth = 0; left = w; test = Fails; lowest = None; verdict = Holds })
        (is : get_or rs at d ≡ Scope sc.side sc.pick sc.name sc.duration) {ends : List ℕ} (ended : Ends rs ends) (test_next : sc.test ≡ at + 1) (body_behind : sc.body ≡ get_or ends (at + 1) 0) where
      abbrev scope_parts : PropertyBy rs at (Scope sc.side sc.pick sc.name sc.duration) (property_at rs at)
      scope_parts = property_by rs at d _ is _ ok.stands.begins

      abbrev scope_test : Test
      scope_test = scope_parts.first

      abbrev scope_body : Property
      scope_body = scope_parts.second

      body_at : sc.body ≡ at + 1 + length (test_rows scope_test)
      body_at = body_behind ∙ part_place rs ends (at + 1) (test_rows scope_test) ended (test_part scope_test) scope_parts.left (test_within rs (at + 1) scope_test scope_parts.left)

      body_begins : Begins rs sc.body (rows scope_body)
      body_begins = subst (λ i. Begins rs i (rows scope_body)) (sym body_at) scope_parts.right

      pub scope_ready : PlacesReady es rs room (length η) (length s) x.scoping x.window x.left
      scope_ready =
          let k = ok.stands in
          let fits = and_parts _ _ (subst (λ x. well_scoped k.sorts x ≡ true) scope_parts.is k.fits) in
          let inner_fits = and_parts _ _ fits.1 in
          let space : length k.sorts < 8 = ltb-true (length k.sorts) 8 fits.0 in
          let many = k.many in
          let deep = subst (λ x. length s + depth_of x ≤ room) scope_parts.is k.deep in
          let long = length_push k.sorts sort.Event in
          let ready : PlacesReady es rs room (length η) (length s) sc w w
          = record {
            body = standing rs (length η + 1) sc.body (length s + 1) room scope_body body_begins (k.sorts with sort.Event) (omega arith) inner_fits.1 (omega arith);
            test = subst (λ i. Begins rs i (test_rows (test_at rs i))) (sym test_next) (test_begins rs (at + 1) scope_test scope_parts.left);
            space = omega arith;
            inside = ok.inside;
            within = omega arith;
          } in
          rw new ready

      scope_worth : resume es rs η s (sweeping es rs sc η w None Holds w) ≡ worth es rs η (Ask at w) s
      scope_worth =
          ap (resume es rs η s)
          (sweeps sc.pick w (delimiter_test es rs sc η) (inner es rs sc η w)
          ∙ ap₂ (λ i x. scoped sc.pick w (asked es η i sc.name (test_at rs i)) (λ j. judged es (η ⊕ var.Event (event_at es j)) (window sc.side (time_at es) sc.duration j w) sc.body x)) test_next (property_is rs sc.body scope_body body_begins)
          ∙ ap₂ (λ x i. scoped sc.pick w (asked es η (at + 1) sc.name x) (λ j. judged es (η ⊕ var.Event (event_at es j)) (window sc.side (time_at es) sc.duration j w) i scope_body)) (test_is rs (at + 1) scope_test scope_parts.left) body_at)
          ∙ sym (ap (λ x. resume es rs η s (judged es η w at x)) scope_parts.is)

      pub from_scope : length es ≤ 65535 → {θ : Variables} {u : Turn} {r : List JudgingRow} {n : ℕ} →
          Onward es rs n θ u r (resume es rs η s (sweeping es rs x.scoping η x.window x.lowest x.verdict x.left)) (pending rs (Places x ∷ s)) → From n θ u r
      from_scope small {θ} {u} {r} {n} o =
          let first = subst (λ x. Onward es rs n θ u r (resume es rs η s (sweeping es rs x.scoping η x.window x.lowest x.verdict x.left)) (pending rs (Places x ∷ s))) new o in
          let before : steps_at rs at ≡ 2 + 65535 * (1 + steps scope_body) = ap steps scope_parts.is in
          let after : steps_at rs sc.body ≡ steps scope_body = ap steps (property_is rs sc.body scope_body body_begins) in
          let i = ok.inside in
          let most : (w.1 - w.0) * (1 + steps scope_body) ≤ 65535 * (1 + steps scope_body) = mul-le-mul_right (1 + steps scope_body) (omega arith) in
          let same : (w.1 - w.0) * (1 + steps_at rs sc.body) ≡ (w.1 - w.0) * (1 + steps scope_body) = ap (λ x. (w.1 - w.0) * (1 + x)) after in
          let nearer = first.nearer in
          record { valid = first.valid; same = first.same ∙ scope_worth; nearer = omega arith }

    module _ {q : Quantifying} {x : ValuesRow} (new : x ≡ record { quantifying = q; window = w; depth = 0; next = 0; verdict = start q.quantifier })
        (is : get_or rs at d ≡ Quantify q.quantifier q.variable q.code) (body_next : q.body ≡ at + 1) where
      abbrev quantify_parts : PropertyBy rs at (Quantify q.quantifier q.variable q.code) (property_at rs at)
      quantify_parts = property_by rs at d _ is _ ok.stands.begins

      abbrev value_body : Property
      value_body = quantify_parts.0

      pub quantify_ready : ValuesReady es rs room (length η) (length s) x.quantifying x.window
      quantify_ready =
          let k = ok.stands in
          let fits = and_parts _ _ (subst (λ x. well_scoped k.sorts x ≡ true) quantify_parts.1 k.fits) in
          let space : length k.sorts < 8 = ltb-true (length k.sorts) 8 (and_parts _ _ fits.0).1 in
          let many = k.many in
          let deep = subst (λ x. length s + depth_of x ≤ room) quantify_parts.1 k.deep in
          let long = length_push k.sorts sort.Number in
          let ready : ValuesReady es rs room (length η) (length s) q w
          = record {
            body = subst (λ i. Standing rs (length η + 1) i (length s + 1) room) (sym body_next)
                (standing rs (length η + 1) (at + 1) (length s + 1) room value_body quantify_parts.2 (k.sorts with sort.Number) (omega arith) fits.1 (omega arith));
            space = omega arith;
            inside = ok.inside;
          } in
          rw new ready

      quantify_worth : resume es rs η s (gathering es rs q η w (start q.quantifier) 0) ≡ worth es rs η (Ask at w) s
      quantify_worth =
          let vs = coded_from q.code (event_in (bound η q.variable)) 0 in
          ap (resume es rs η s)
          (combined_start q.quantifier _
          ∙ ap (λ i. quantified q.quantifier vs (λ v. judged_at es rs (η ⊕ var.Number v) w i)) body_next
          ∙ ap (λ x. quantified q.quantifier vs (λ v. judged es (η ⊕ var.Number v) w (at + 1) x)) (property_is rs (at + 1) value_body quantify_parts.2))
          ∙ sym (ap (λ x. resume es rs η s (judged es η w at x)) quantify_parts.1)

      pub from_quantify : {θ : Variables} {u : Turn} {r : List JudgingRow} {n : ℕ} →
          Onward es rs n θ u r (resume es rs η s (gathering es rs x.quantifying η x.window x.verdict x.next)) (pending rs (Values x ∷ s)) → From n θ u r
      from_quantify {θ} {u} {r} {n} o =
          let first = subst (λ x. Onward es rs n θ u r (resume es rs η s (gathering es rs x.quantifying η x.window x.verdict x.next)) (pending rs (Values x ∷ s))) new o in
          let before : steps_at rs at ≡ 2 + 4 * (1 + steps value_body) = ap steps quantify_parts.1 in
          let after : steps_at rs q.body ≡ steps value_body = ap (steps_at rs) body_next ∙ ap steps (property_is rs (at + 1) value_body quantify_parts.2) in
          let same : 4 * (1 + steps_at rs q.body) ≡ 4 * (1 + steps value_body) = ap (λ x. 4 * (1 + x)) after in
          let nearer = first.nearer in
          record { valid = first.valid; same = first.same ∙ quantify_worth; nearer = omega arith }
