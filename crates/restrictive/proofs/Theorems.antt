-- The verdict of a record is what its machine is: the statements of specs/Theorems.antt.
use Prim.Native.Nat.{ℕ, zero, suc, ◌*◌, ◌≤◌, ◌<◌}
use mathlib.Core.Path.{◌≡◌, refl, sym, ap, ◌∙◌, subst}
use mathlib.Core.List.{List, [], ◌∷◌}
use mathlib.Core.Option.{Option, none, some}
use mathlib.Core.Logic.{◌↔◌, ◌⊎◌, inl, inr, ⊎_elim}
use native.Mathlib.Decide.{ℕ_discrete}
use native.Mathlib.Omega.{arith}
use Rattle.bounded.proofs.Search.{true_or_false, count_le, count-some, total-same, total-within}
use Rattle.bounded.proofs.Paths.{length-visits}
use Rattle.machine.specs.Rules.{Rule, rule_1, rule_2, rule_3, rule_4, rule_5, Restrictive}
use Rattle.machine.proofs.Noninterference.{restrictive_hides}
use Rattle.machine.proofs.Earlier.{earlier_related}
use Rattle.words.specs.LittleEndian.{byte}
use Rattle.partition.specs.Theorems.{LimitOf}
use Rattle.partition.proofs.Limits.{limit_of}
use Rattle.part.specs.Record.{observers, observer, states, column, fine_column, observer_of}
use Rattle.screening.specs.Rejections.{Condition, first_of, rejection, Accepted}
use Rattle.screening.specs.Machine.{machine, observation}
use Rattle.screening.proofs.Accepted.{skip, hit, rejection-none}
use Rattle.screening.proofs.Places.{places}
use Rattle.screening.proofs.Ranges.{ranges, frame, fine_inside, observations_unlimited}
use Rattle.restrictive.specs.Tests.{answers}
use Rattle.relations.specs.Relations.{rule_at, silent_step, reach_for, visits_for, visits, closure_sizes}
use Rattle.relations.proofs.SilentReach.{reach_self}
use Rattle.restrictive.specs.Verdict.{Violation, pass, refused, first_violation, by_rules, after_rejection}
use Rattle.restrictive.specs.Verdict.{Verdict, breaks, verdict, taken_by, taken, limit, limit_by, told_limit}
use lib.ListN.{length, get_or}
use Rattle.restrictive.specs.Theorems.{
  LimitExactly,
  PassesExactly,
  FirstHolding,
  here,
  later,
  RefusedExactly,
  rule_number,
  in_order,
  Names,
  BreaksExactly,
  PassingHides,
  EarlierPasses,
  TakesUp,
  passing,
  breaking,
  TakenExactly,
  TakenRange,
}
use Rattle.bounded.specs.Search.{Below, count, total}
use Rattle.bounded.proofs.Truth.{not-not}
use Rattle.restrictive.specs.Earlier.{as_outputs}
use Rattle.restrictive.proofs.Earlier.{same-observers, earlier-accepted, is_earlier}
use Rattle.restrictive.proofs.Taken.{taken-all, taken_none}
use Rattle.restrictive.proofs.Verdicts.{one_limit}
use Rattle.restrictive.proofs.Reflect.{answers_iff, broken_iff, asked_placed}
use Rattle.restrictive.proofs.First.{Finds, finds_as, finds_first, Level, IsViolation, level_of, from_rule, finds_violation}

-- ---- the rules by their numbers

rule_at-number : (k : ℕ) → k < 5 → rule_number (rule_at k) ≡ suc k
unfolding rule_at rule_number
rule_at-number zero h = refl
rule_at-number (suc zero) h = refl
rule_at-number (suc (suc zero)) h = refl
rule_at-number (suc (suc (suc zero))) h = refl
rule_at-number (suc (suc (suc (suc zero)))) h = refl
rule_at-number (suc (suc (suc (suc (suc k))))) h = absurd (omega arith)

rule-place : (r : Rule) → (k : Below 5) × (rule_at k.0 ≡ r) × (rule_number r ≡ suc k.0)
unfolding rule_at rule_number
rule-place rule_1 = ((0, omega arith), refl, refl)
rule-place rule_2 = ((1, omega arith), refl, refl)
rule-place rule_3 = ((2, omega arith), refl, refl)
rule-place rule_4 = ((3, omega arith), refl, refl)
rule-place rule_5 = ((4, omega arith), refl, refl)

-- A violation is known by what it names.
in_order-same : (v w : Violation) → in_order v ≡ in_order w → v ≡ w
in_order-same v w e =
    let q : ◌≡◌ {A = Violation} (record { level = v.level; rule = v.rule; event = v.event; s = v.s; t = v.t; u = v.u })
    (record { level = w.level; rule = w.rule; event = w.event; s = w.s; t = w.t; u = w.u }) = cc in
    q

-- ---- the violations that the tests show are the breaks of the machine

module _ (b : List ℕ) (a : Accepted b) where
  -- v is a violation for one of the observers.
  abbrev Violates : Violation → Type 0
  Violates = Level (observers b) (λ o. IsViolation b (observer_of b o))

  names_iff : (v : Violation) → Violates v ↔ Names b a v
  names_iff v = (
    λ (o, (k, (i, (s, (t, (u, (c, q))))))).
        subst (Names b a) q (record {
          the_observer = o;
          the_rule = rule_at k.0;
          s = s;
          t = t;
          u = u;
          as_named = rw (rule_at-number _ k.1);
          is_broken = (broken_iff b a o.0 _ _ ((places b a).found i.0 i.1) _ s t u).0 c;
        }),
    λ w.
        let r = w.the_rule in
        let o = w.the_observer in
        let (i, p) = asked_placed b a o.0 r _ _ _ _ w.is_broken.0 in
        let (k, at, number) = rule-place r in
        let (h, event) = (places b a).stands v.event i p in
        let c = (broken_iff b a o.0 _ i p r _ _ _).1 w.is_broken in
        (o, (k, ((i, h), (w.s, (w.t, (w.u, (rw at c, in_order-same _ v (cc)))))))),
  )

  -- The search for the first violation is one for the first break.
  finds_break : Finds in_order (Names b a) (first_violation b)
  unfolding first_violation
  finds_break =
      finds_as names_iff
      (finds_first (observers b) (observer b) (ranges b a).observers_rise (λ v. v.level) from_rule
      (λ o. IsViolation b (observer_of b o)) (λ o v d. level_of b _ v d) _
      (λ o h. finds_violation b (observer_of b o) (ranges b a).identifiers_rise))

  -- It finds nothing exactly if the machine is restrictive with each observation.
  restrictive_iff : (first_violation b ≡ none)
      ↔ ((o : ℕ) → o < observers b → Restrictive (machine b a) (observation b o))
  restrictive_iff = (
    λ q o l r e s t u h.
        let (i, p) = asked_placed b a o r e s t u h in
        not-not (answers b (observer_of b o) r i s.0 t.0 u.0) (answers_iff b a o e i p r s t u) (λ n.
        finds_break.nothing.0 q
        (record { level = observer b o; rule = rule_number r; event = e; s = s.0; t = t.0; u = u.0 })
        (record { the_observer = (o, l); the_rule = r; s = s; t = t; u = u; as_named = refl; is_broken = (h, n) })),
    λ R. finds_break.nothing.1
        (λ v w.
        let o = w.the_observer in
        w.is_broken.1 (R o.0 o.1 w.the_rule v.event w.s w.t w.u w.is_broken.0)),
  )

-- ---- the first rejection

module _ (b : List ℕ) where
  first_holding : (cs : List Condition) (k : ℕ) → first_of cs b ≡ some k → FirstHolding b cs k
  unfolding first_of
  first_holding [] k e = absurd (let z : ◌≡◌ {A = ℕ} 0 1 = cc in omega arith)
  first_holding (c ∷ cs) k e =
      ⊎_elim
      (λ t. let q : c.number ≡ k = cc (hit c cs b t) in subst (FirstHolding b (c ∷ cs)) q (here t))
      (λ f. later f (first_holding cs k (sym (skip c cs b f) ∙ e)))
      (true_or_false (c.holds b))

  holding_first : {cs : List Condition} {k : ℕ} → FirstHolding b cs k → first_of cs b ≡ some k
  holding_first (here {c = c} {cs = cs} t) = hit c _ b t
  holding_first (later {c = c} {cs = cs} f h) = skip c _ b f ∙ holding_first h

-- ---- the verdict

by_rules-same : (o p : Option Violation) → by_rules o ≡ by_rules p → o ≡ p
unfolding by_rules
by_rules-same none none e = refl
by_rules-same none (some w) e = cc
by_rules-same (some v) none e = cc
by_rules-same (some v) (some w) e = cc

not-refused : (k : ℕ) (o : Option Violation) → by_rules o ≡ refused k → ⊥
unfolding by_rules
not-refused k none e = let z : ◌≡◌ {A = ℕ} 0 1 = cc in omega arith
not-refused k (some v) e = let z : ◌≡◌ {A = ℕ} 0 1 = cc in omega arith

module _ (b : List ℕ) where
  accepted : Accepted b → verdict b ≡ by_rules (first_violation b)
  unfolding verdict after_rejection
  accepted a = rw ((rejection-none b).1 a)

  rejected : (k : ℕ) → rejection b ≡ some k → verdict b ≡ refused k
  unfolding verdict after_rejection
  rejected k p = rw p

  either : Accepted b ⊎ ((k : ℕ) × (rejection b ≡ some k))
  either = go (rejection b) refl
    where
      go : (o : Option ℕ) → rejection b ≡ o → Accepted b ⊎ ((k : ℕ) × (rejection b ≡ some k))
      go none p = inl ((rejection-none b).0 p)
      go (some k) p = inr (k, p)

  by_rules_iff : (o : Option Violation)
      → (verdict b ≡ by_rules o) ↔ (Accepted b × (first_violation b ≡ o))
  by_rules_iff o = (
    λ e.
        ⊎_elim
        (λ a. (a, by_rules-same _ o (sym (accepted a) ∙ e)))
        (λ (k, p). absurd (not-refused k o (sym e ∙ rejected k p)))
        either,
    λ (a, q). accepted a ∙ ap by_rules q,
  )

pub passes-exactly : PassesExactly
unfolding by_rules
passes-exactly b = (
  λ e. let (a, q) = (by_rules_iff b _).0 e in (a, (restrictive_iff b a).0 q),
  λ (a, R). (by_rules_iff b _).1 (a, (restrictive_iff b a).1 R),
)

pub breaks-exactly : BreaksExactly
unfolding by_rules
breaks-exactly b v = (
  λ e. let (a, q) = (by_rules_iff b _).0 e in let (n, c) = ((finds_break b a).something v).0 q in (a, n, c),
  λ (a, n, c). (by_rules_iff b _).1 (a, ((finds_break b a).something v).1 (n, c)),
)

pub refused-exactly : RefusedExactly
unfolding rejection
refused-exactly b k = (
  λ e.
      ⊎_elim
      (λ a. absurd (not-refused k _ (sym (accepted b a) ∙ e)))
      (λ (j, p). first_holding b _ k (let q = rejected b j p in cc))
      (either b),
  λ h. rejected b k (holding_first b h),
)

-- For any proof that no rejection applies.
pub passing_restrictive : (b : List ℕ) (a : Accepted b) → verdict b ≡ pass → (o : ℕ) → o < observers b
    → Restrictive (machine b a) (observation b o)
unfolding by_rules
passing_restrictive b a e = (restrictive_iff b a).0 ((by_rules_iff b _).0 e).1

pub passing-hides : PassingHides
passing-hides b a n e o l = restrictive_hides _ _ _ (observations_unlimited b n o) (passing_restrictive b a e o l)

-- The limit at a pass, and otherwise.
module _ (b : List ℕ) where
  limit-told : verdict b ≡ pass → told_limit b ≡ limit b
  unfolding told_limit limit_by
  limit-told e = ap (limit_by b) e

  limit_untold : (verdict b ≡ pass → ⊥) → told_limit b ≡ 0
  unfolding told_limit limit_by
  limit_untold n = go (verdict b) n
    where
      go : (v : Verdict) → (v ≡ pass → ⊥) → limit_by b v ≡ 0
      go pass n = absurd (n refl)
      go (refused k) n = refl
      go (breaks v) n = refl

  pass-accepted : verdict b ≡ pass → Accepted b
  pass-accepted e = ((passes-exactly b).0 e).0

  its_limit : Accepted b → LimitOf (states b) (byte (column b 0)) (byte (fine_column b 0)) (limit b)
  unfolding limit
  its_limit a = limit_of _ _ _ (frame b a).one_state (fine_inside b a 0 (frame b a).some_observer)

-- It is at least 1.
some-limit : {n k : ℕ} {class fine : ℕ → ℕ} → 1 ≤ n → LimitOf n class fine k → k ≡ 0 → ⊥
some-limit {n} {k} {class} {fine} l w e =
    let one = w.most (0 ∷ []) (record {
      below = λ i h. let q : i ≡ 0 = omega arith in rw q (omega arith);
      together = λ i j h m. let p : i ≡ 0 = omega arith in let q : j ≡ 0 = omega arith in rw (p, q) refl;
      apart = λ i j h m. absurd (omega arith);
    }) in
    omega arith

pub limit-exactly : LimitExactly
limit-exactly b = record {
  limited = λ e. rw (limit-told b e) (its_limit b (pass-accepted b e));
  nothing = (
    λ z e. some-limit (frame b (pass-accepted b e)).one_state (its_limit b (pass-accepted b e)) (sym (limit-told b e) ∙ z),
    limit_untold b,
  );
  unlimited = λ n e. limit-told b e ∙ one_limit b (pass-accepted b e) n;
}

pub earlier-passes : EarlierPasses
earlier-passes b e =
    let (a, R) = (passes-exactly (as_outputs b)).0 e in
    (passes-exactly b).1 (
      earlier-accepted b a,
      λ o l. earlier_related (is_earlier b a o l) (R o (omega (arith, same-observers b a))),
    )

-- ---- a break names one of the five rules

rule-most : (r : Rule) → rule_number r ≤ 5
unfolding rule_number
rule-most rule_1 = omega arith
rule-most rule_2 = omega arith
rule-most rule_3 = omega arith
rule-most rule_4 = omega arith
rule-most rule_5 = omega arith

pub break_rule : (b : List ℕ) (v : Violation) → verdict b ≡ breaks v → v.rule ≤ 5
break_rule b v e =
    let w = ((breaks-exactly b v).0 e).1 in
    let q : v.rule ≡ rule_number w.the_rule = ap (λ (l : List ℕ). get_or l 1 0) w.as_named in
    omega (arith, rule-most w.the_rule)

-- ---- the states that are taken up

-- The closures of the states of a record, together: as many as their visits, at least n, and at most n times n.
module _ (b : List ℕ) where
  sizes-visits : (o : ℕ) → closure_sizes b (observer b o) ≡ total (states b) (λ s. length (visits b o s))
  unfolding closure_sizes visits_for reach_for
  sizes-visits o =
      total-same (states b) _ _ (λ s h. sym (length-visits (silent_step b (observer b o)) (states b) s))

  sizes-within : (l : ℕ) → (states b ≤ closure_sizes b l) × (closure_sizes b l ≤ states b * states b)
  unfolding closure_sizes
  sizes-within l =
      let (least, most) = total-within (states b) 1 (states b) (λ s. count (states b) (reach_for b l s)) (λ s h. (
        count-some (states b) (reach_for b l s) s h (reach_self b l s h),
        count_le (states b) (reach_for b l s),
      )) in
      (omega arith, most)

  takes_all : (o : ℕ) → TakesUp b o → taken b ≡ closure_sizes b (observer b o)
  unfolding taken taken_by
  takes_all o (passing e q) = ap (taken_by b) e ∙ ap (λ (p : ℕ). closure_sizes b (observer b p)) (sym q)
  takes_all o (breaking v e late level) = ap (taken_by b) e ∙ taken-all b v late ∙ ap (closure_sizes b) level

  -- A break of rule 4 or 5 is one for some observer.
  break_taken : (v : Violation) → verdict b ≡ breaks v → (v.rule ≡ 4) ⊎ (v.rule ≡ 5)
      → (o : Below (observers b)) × TakesUp b o.0
  break_taken v e late =
      let w = ((breaks-exactly b v).0 e).1 in
      (w.the_observer, breaking v e late (ap (λ (l : List ℕ). get_or l 0 0) w.as_named))

  -- It takes them up for an observer, or nothing.
  takes_or-not : ((o : Below (observers b)) × TakesUp b o.0) ⊎ (taken b ≡ 0)
  unfolding taken taken_by
  takes_or-not = go (verdict b) refl
    where
      go : (v : Verdict) → verdict b ≡ v
          → ((o : Below (observers b)) × TakesUp b o.0) ⊎ (taken_by b (verdict b) ≡ 0)
      go pass e = inl ((0, (ranges b ((passes-exactly b).0 e).0).some_observer), passing e refl)
      go (refused k) e = inr (rw e)
      go (breaks v) e =
          elim (ℕ_discrete v.rule 4) [
            | yes q ↦ inl (break_taken v e (inl q))
            | no d ↦ elim (ℕ_discrete v.rule 5) [
              | yes q ↦ inl (break_taken v e (inr q))
              | no f ↦ inr (rw e (taken_none b v (⊎_elim d f)))
            ]
          ]

  -- Then there is a state.
  taking_accepted : (o : ℕ) → TakesUp b o → 1 ≤ states b
  taking_accepted o (passing e q) = (ranges b ((passes-exactly b).0 e).0).one_state
  taking_accepted o (breaking v e late level) = (ranges b ((breaks-exactly b v).0 e).0).one_state

pub taken-exactly : TakenExactly
taken-exactly b = record {
  all_closures = λ o l t. takes_all b o t ∙ sizes-visits b o;
  no_closures = (
    λ e o l t. omega (arith, takes_all b o t, (sizes-within b (observer b o)).0, taking_accepted b o t),
    λ none. ⊎_elim (λ (o, t). absurd (none o.0 o.1 t)) (λ e. e) (takes_or-not b),
  );
}

pub taken_range : TakenRange
taken_range b =
    ⊎_elim (λ (o, t). inr (rw (takes_all b o.0 t) (sizes-within b _))) inl (takes_or-not b)
