-- The rules by their sets: where a rule is broken, in terms of what a state offers.
use Prim.Native.Nat.{ℕ, zero, suc, ◌+◌, ◌≤◌, ◌<◌}
use mathlib.Core.Path.{◌≡◌, refl, sym, ap, ◌∙◌}
use mathlib.Core.Bool.{Bool, true, false, not, ◌||◌, ◌&&◌, or-true, or-false}
use mathlib.Core.List.{List}
use mathlib.Core.Option.{none, some}
use native.Mathlib.Decide.{dec_lt}
use native.Mathlib.Omega.{arith}
use mathlib.Core.Logic.{◌↔◌, ⊎_elim}
use lib.Dec.{eqb}
use lib.ListN.{get_or}
use borrow.Author.Tests.{eqb-true, eq-eqb, ne_eqb, not-true}
use Rattle.bounded.specs.Search.{any, first, when}
use Rattle.bounded.proofs.Search.{all_at, all_intro, any_found, any_next, any_none, first-nothing, first_hit}
use Rattle.bounded.proofs.Search.{same_truth, is_false, is_true, true_not_false, imp_elim, imp_intro, not_refuted}
use Rattle.bounded.proofs.Search.{true_or_false, and_right}
use Rattle.machine.specs.Rules.{Rule, rule_1, rule_2, rule_3, rule_4, rule_5}
use Rattle.words.specs.LittleEndian.{byte}
use Rattle.part.specs.Record.{states, identifier, row, Observer, observing}
use Rattle.partition.specs.Sets.{Inside}
use Rattle.partition.specs.Classes.{same_class}
use Rattle.relations.specs.Relations.{role_at, concerns, leads, rule_at}
use Rattle.relations.specs.declared.event.Rule as event
use Rattle.relations.specs.declared.event.Rule.TheVariants.{Inputs, HighInputs, LowInputs, SilentEvents, LowOutputs}
use Rattle.relations.specs.Sets.{place_of}
use Rattle.restrictive.specs.declared.answer.Case.{Case}
use Rattle.restrictive.specs.Tests.{asks, answers, broken}
use Rattle.restrictive.specs.Verdict.{Violation, violation_at, state_violation, event_violation, rule_violation}
use Rattle.restrictive.specs.Sets.{Enabled, led_to, reached, offer, beside, permits, Beside, Judgeable, Asked}
use Rattle.restrictive.specs.Sets.{Offers}
use Rattle.words.specs.Sets.{bit, intersection}
use Rattle.words.proofs.Sets.{bit-intersection, bit_zero, all-below}

-- ---- one violation

abbrev pub the_violation : List ℕ → Observer → ℕ → ℕ → ℕ → ℕ → ℕ → Violation
the_violation b o k i s t u = record { level = o.level; rule = suc k; event = identifier b i; s = s; t = t; u = u }

module _ (b : List ℕ) (o : Observer) (k i s t u : ℕ) where
  pub violated : broken b o (rule_at k) i s t u ≡ true → violation_at b o k i s t u ≡ some (the_violation b o k i s t u)
  unfolding violation_at when
  violated e = rw e

  pub not_violated : broken b o (rule_at k) i s t u ≡ false → violation_at b o k i s t u ≡ none
  unfolding violation_at when
  not_violated e = rw e

-- ---- rules 3 to 5: u stands beside s, and does not offer the class of t

pub eqb_swap : (m n : ℕ) → eqb m n ≡ eqb n m
eqb_swap m n = same_truth _ _ (λ e. eq-eqb n m (sym (eqb-true m n e))) (λ e. eq-eqb m n (sym (eqb-true n m e)))

-- A rule takes u among the fine classes, and rule 3 among the classes, which then stand for them.
pub beside-fine : (l k : ℕ) (column fine : List ℕ) → 2 ≤ k → k < 5 → Beside k column fine
    → beside (observing l column fine) (rule_at k) ≡ byte fine
unfolding rule_at
beside-fine l zero column fine h m e = absurd (omega arith)
beside-fine l (suc zero) column fine h m e = absurd (omega arith)
beside-fine l (suc (suc zero)) column fine h m e = ap byte (sym (e refl))
beside-fine l (suc (suc (suc zero))) column fine h m e = refl
beside-fine l (suc (suc (suc (suc k)))) column fine h m e = refl

-- Where the fine classes lie inside the classes, u has the class of s.
pub beside-class : (o : Observer) (n : ℕ) → Inside n o.class o.fine → (r : Rule) (s u : ℕ) → s < n → u < n
    → same_class (beside o r) u s ≡ true → same_class o.class u s ≡ true
unfolding same_class
beside-class o n inside rule_1 s u h l q = q
beside-class o n inside rule_2 s u h l q = q
beside-class o n inside rule_3 s u h l q = q
beside-class o n inside rule_4 s u h l q = eq-eqb _ _ (inside u s l h (eqb-true _ _ q))
beside-class o n inside rule_5 s u h l q = eq-eqb _ _ (inside u s l h (eqb-true _ _ q))

-- Rules 1 to 3 ask nothing of the fine classes.
pub coarse_rule : (b : List ℕ) (o : Observer) (k : ℕ) → k < 3
    → rule_violation b (record { level = o.level; class = o.class; fine = o.class }) k ≡ rule_violation b o k
unfolding rule_violation event_violation state_violation violation_at broken asks answers rule_at
coarse_rule b o zero h = refl
coarse_rule b o (suc zero) h = refl
coarse_rule b o (suc (suc zero)) h = refl
coarse_rule b o (suc (suc (suc k))) h = absurd (omega arith)

module _ (b : List ℕ) (o : Observer) where
  pub broken_asked : (k i s t u : ℕ) → 2 ≤ k → k < 5 → Asked b o.level k i s t
      → broken b o (rule_at k) i s t u
      ≡ (same_class (beside o (rule_at k)) u s && not (offer b o.level o.class (rule_at k) i u (o.class t)))
  unfolding broken asks answers rule_at same_class offer led_to reached
  broken_asked zero i s t u h l a = absurd (omega arith)
  broken_asked (suc zero) i s t u h l a = absurd (omega arith)
  broken_asked (suc (suc zero)) i s t u h l a = rw (a.0, a.1)
  broken_asked (suc (suc (suc zero))) i s t u h l a = rw (a.0, a.1)
  broken_asked (suc (suc (suc (suc zero)))) i s t u h l a = rw (a.0, a.1)
  broken_asked (suc (suc (suc (suc (suc k))))) i s t u h l a = absurd (omega arith)

  -- ---- where no rule is broken

  -- A rule that does not speak of the event, or a step that is not there, breaks nothing.
  unasked : (r : Rule) (i s t u : ℕ) → concerns r (role_at b o.level i) ≡ false → broken b o r i s t u ≡ false
  unfolding broken asks
  unasked rule_1 i s t u e = rw e
  unasked rule_2 i s t u e = rw e
  unasked rule_3 i s t u e = rw e
  unasked rule_4 i s t u e = rw e
  unasked rule_5 i s t u e = rw e

  pub unconcerned : (k i s t u : ℕ) → k < 5 → concerns (rule_at k) (role_at b o.level i) ≡ false
      → broken b o (rule_at k) i s t u ≡ false
  unconcerned k i s t u l e = unasked (rule_at k) i s t u e

  pub not_led : (k i s t u : ℕ) → 1 ≤ k → k < 5 → concerns (rule_at k) (role_at b o.level i) ≡ true
      → leads b i s t ≡ false
      → broken b o (rule_at k) i s t u ≡ false
  unfolding broken asks rule_at
  not_led zero i s t u h l a e = absurd (omega arith)
  not_led (suc zero) i s t u h l a e = rw (a, e)
  not_led (suc (suc zero)) i s t u h l a e = rw (a, e)
  not_led (suc (suc (suc zero))) i s t u h l a e = rw (a, e)
  not_led (suc (suc (suc (suc zero)))) i s t u h l a e = rw (a, e)
  not_led (suc (suc (suc (suc (suc k))))) i s t u h l a e = absurd (omega arith)

  -- Rule 2: t has another class than s.
  pub broken-leaving : (i s t u : ℕ) → Asked b o.level 1 i s t
      → broken b o (rule_at 1) i s t u ≡ not (eqb (o.class s) (o.class t))
  unfolding broken asks answers rule_at same_class
  broken-leaving i s t u a = rw (a.0, a.1) (ap not (eqb_swap (o.class t) (o.class s)))

  -- What is permitted under rule 2 is the class of s alone.
  pub permits_own : (i s c : ℕ) → s < states b → permits b o rule_2 i s c ≡ eqb (o.class s) c
  unfolding permits offer same_class
  permits_own i s c h =
      let x = o.class s in
      same_truth _ _
      (λ e. imp_elim _ _ (all_at _ _ e s h) (eq-eqb x x refl))
      (λ e.
      all_intro _ _ (λ u l.
      imp_intro (eqb (o.class u) x) (eqb (o.class u) c)
      (λ q. eq-eqb (o.class u) c (eqb-true _ x q ∙ eqb-true x c e))))

  -- A step to a class that is permitted breaks nothing.
  pub permits-step : (k i s t u : ℕ) → 1 ≤ k → k < 5 → s < states b → u < states b → Asked b o.level k i s t
      → permits b o (rule_at k) i s (o.class t) ≡ true
      → broken b o (rule_at k) i s t u ≡ false
  unfolding permits rule_at
  permits-step zero i s t u h l hs hu a p = absurd (omega arith)
  permits-step (suc zero) i s t u h l hs hu a p = broken-leaving i s t u a ∙ ap not (sym (permits_own i s _ hs) ∙ p)
  permits-step (suc (suc k)) i s t u h l hs hu a p =
      broken_asked _ i s t u (omega arith) l a
      ∙ not_refuted (same_class (beside o (rule_at (suc (suc k)))) u s)
      (offer b o.level o.class (rule_at (suc (suc k))) i u (o.class t))
      (imp_elim _ _ (all_at _ _ p u hu))

  pub leaves-class : (k i s t u : ℕ) → k ≡ 1 → s < states b → Asked b o.level k i s t
      → permits b o (rule_at k) i s (o.class t) ≡ false
      → broken b o (rule_at k) i s t u ≡ true
  unfolding rule_at
  leaves-class zero i s t u e h a p = absurd (omega arith)
  leaves-class (suc zero) i s t u e h a p = broken-leaving i s t u a ∙ ap not (sym (permits_own i s _ h) ∙ p)
  leaves-class (suc (suc k)) i s t u e h a p = absurd (omega arith)

-- ---- searches that find nothing, and the first of a search that need not look further

module _ (b : List ℕ) (o : Observer) (k i s t : ℕ) where
  pub none_there : ((u : ℕ) → u < states b → broken b o (rule_at k) i s t u ≡ false)
      → first (states b) (violation_at b o k i s t) ≡ none
  none_there f = first-nothing _ _ (λ u h. not_violated b o k i s t u (f u h))

  -- broken whatever u is: named with u = 0
  pub any-other : 1 ≤ states b → broken b o (rule_at k) i s t 0 ≡ true
      → first (states b) (violation_at b o k i s t) ≡ some (the_violation b o k i s t 0)
  unfolding first
  any-other h e = first_hit _ _ 0 _ h refl (violated b o k i s t 0 e)

pub none_at : (b : List ℕ) (o : Observer) (k i s : ℕ)
    → ((t u : ℕ) → t < states b → u < states b → broken b o (rule_at k) i s t u ≡ false)
    → state_violation b o k i s ≡ none
unfolding state_violation
none_at b o k i s f = first-nothing _ _ (λ t h. none_there b o k i s t (λ u l. f t u h l))

pub none_by : (b : List ℕ) (o : Observer) (k i : ℕ) → k < 5 → concerns (rule_at k) (role_at b o.level i) ≡ false
    → event_violation b o k i ≡ none
unfolding event_violation
none_by b o k i l e = first-nothing _ _ (λ s h. none_at b o k i s (λ t u p q. unconcerned b o k i s t u l e))

-- ---- the sets say where a rule is broken

-- Each rule has a place.
pub place_below : (r : event.Rule) → place_of r < 5
place_below Inputs = omega arith
place_below HighInputs = omega arith
place_below LowInputs = omega arith
place_below SilentEvents = omega arith
place_below LowOutputs = omega arith

-- The rules behind the second.
pub after_high : (r : event.Rule) → 1 ≤ place_of r → (r ≡ HighInputs → ⊥) → 2 ≤ place_of r
after_high Inputs h n = absurd (omega arith)
after_high HighInputs h n = absurd (n refl)
after_high LowInputs h n = omega arith
after_high SilentEvents h n = omega arith
after_high LowOutputs h n = omega arith

module _ (b column fine : List ℕ) (l : ℕ) (c : Case) (permitted offers : List ℕ)
    (w : Judgeable b column fine l c permitted offers)
  where
    abbrev o : Observer
    o = observing l column fine

    abbrev k : ℕ
    k = place_of c.rule

    abbrev i : ℕ
    i = c.event

    -- the event does not lead from s to t
    pub no_step : (s t : ℕ) → leads b i s t ≡ false → first (states b) (violation_at b o k i s t) ≡ none
    no_step s t e = none_there b o k i s t (λ u l. not_led b o k i s t u w.later (place_below c.rule) w.speaks e)

    -- it leads there, and may
    pub permitted_step : (s t : ℕ) → s < states b → t < states b → leads b i s t ≡ true
        → bit (get_or permitted s 0) t ≡ true
        → first (states b) (violation_at b o k i s t) ≡ none
    permitted_step s t h l e p =
        none_there b o k i s t
        (λ u m. permits-step b o k i s t u w.later (place_below c.rule) h m (w.speaks, e) (sym (w.permitting s h t l) ∙ p))

    -- it leads from s only to states that it may lead to
    pub all_permitted : (s x : ℕ) → s < states b → x ≡ row b i s → intersection x (get_or permitted s 0) ≡ x
        → state_violation b o k i s ≡ none
    unfolding state_violation leads
    all_permitted s x h from e =
        first-nothing _ _ (λ t l.
        ⊎_elim (λ p. permitted_step s t h l p (within t p)) (λ p. no_step s t p) (true_or_false _))
      where
        within : (t : ℕ) → bit (row b i s) t ≡ true → bit (get_or permitted s 0) t ≡ true
        within t p =
            and_right (bit x t) (bit (get_or permitted s 0) t)
            (sym (bit-intersection x _ t) ∙ ap (λ (y : ℕ). bit y t) (e ∙ from) ∙ p)

    -- rule 2: it leads there, and t has another class
    pub leaving : k ≡ 1 → 1 ≤ states b → (s t : ℕ) → s < states b → t < states b → leads b i s t ≡ true
        → bit (get_or permitted s 0) t ≡ false
        → first (states b) (violation_at b o k i s t) ≡ some (the_violation b o k i s t 0)
    leaving e n s t h l p q =
        any-other b o k i s t n (leaves-class b o k i s t 0 e h (w.speaks, p) (sym (w.permitting s h t l) ∙ q))

-- The test of the code for rules 3 to 5 is the rule's.
pub broken_by_set : (b : List ℕ) (o : Observer) (k i s t u : ℕ) (offers : List ℕ) → 2 ≤ k → k < 5
    → Asked b o.level k i s t → Offers b o.level o.class k i offers
    → u < states b
    → broken b o (rule_at k) i s t u ≡ (same_class (beside o (rule_at k)) u s && not (bit (get_or offers u 0) (o.class t)))
broken_by_set b o k i s t u offers h l a offering hu =
    broken_asked b o k i s t u h l a
    ∙ ap (λ (p : Bool). same_class (beside o (rule_at k)) u s && not p) (sym (offering u hu (o.class t)))

-- ---- rule 1: a state with no step

module _ (b : List ℕ) (i : ℕ) where
  abbrev pub without-step : ℕ → Bool
  without-step s = eqb (row b i s) 0

  -- A search for one, a state further.
  pub stuck_here : (s : ℕ) → row b i s ≡ 0 → true ≡ any (s + 1) without-step
  stuck_here s e =
      sym (any_next _ s ∙ ap (λ (p : Bool). any s without-step || p) (eq-eqb _ _ e) ∙ or-true (any s without-step))

  pub stuck_before : (s : ℕ) → (row b i s ≡ 0 → ⊥) → any s without-step ≡ any (s + 1) without-step
  stuck_before s d = sym (any_next _ s ∙ ap (λ (p : Bool). any s without-step || p) (ne_eqb _ _ d) ∙ or-false _)

  pub enabled-all : (s : ℕ) (stuck : Bool) → s ≡ states b → stuck ≡ any s without-step
      → (not stuck ≡ true) ↔ Enabled b i
  enabled-all s stuck q e = (
    λ p u h z. true_not_false (eq-eqb _ 0 z) (any_none _ s (sym e ∙ not-true _ p) u (omega arith)),
    λ all.
        ap not (e ∙ is_false _ (λ t.
        let w = any_found s _ t in
        all w.0 (omega (arith, w.1)) (eqb-true _ 0 w.2))),
  )

module _ (b : List ℕ) (o : Observer) (i s : ℕ) (speaks : concerns (rule_at 0) (role_at b o.level i) ≡ true) where
  broken_stepless : (t u : ℕ) → broken b o (rule_at 0) i s t u ≡ not (any (states b) (leads b i s))
  unfolding broken asks answers rule_at
  broken_stepless t u = rw speaks

  pub stepless : 1 ≤ states b → row b i s ≡ 0 → state_violation b o 0 i s ≡ some (the_violation b o 0 i s 0 0)
  unfolding state_violation first leads
  stepless n e =
      let nowhere : any (states b) (leads b i s) ≡ false = is_false _ (λ t.
      let w = any_found _ _ t in
      true_not_false w.2 (ap (λ (x : ℕ). bit x w.0) e ∙ bit_zero _)) in
      first_hit _ _ 0 _ n refl
      (any-other b o 0 i s 0 n (broken_stepless 0 0 ∙ ap not nowhere))

  pub has_step : ((t : ℕ) → states b ≤ t → bit (row b i s) t ≡ false) → (row b i s ≡ 0 → ⊥)
      → state_violation b o 0 i s ≡ none
  unfolding leads
  has_step within some-row =
      none_at b o 0 i s (λ t u p q.
      broken_stepless t u ∙ ap not (is_true _ (λ e.
      some-row (let z = all-below 0 (row b i s) (λ v l.
      elim (dec_lt v (states b)) [ yes m ↦ any_none (leads b i s) (states b) e v m | no m ↦ within v (omega arith) ]) in
      omega arith))))
