-- Where the states beside each other offer the same, rules 3 to 5 are not broken: a state answers its own steps.
use Prim.Native.Nat.{ℕ, zero, suc, ◌≤◌, ◌<◌}
use mathlib.Core.Path.{◌≡◌, refl, sym, ap, ◌∙◌}
use mathlib.Core.Bool.{Bool, true, ◌&&◌}
use mathlib.Core.List.{List}
use mathlib.Core.Option.{none}
use mathlib.Core.Logic.{⊎_elim}
use native.Mathlib.Decide.{dec_lt}
use native.Mathlib.Omega.{arith}
use lib.Dec.{eqb}
use borrow.Author.Tests.{eq-eqb, lt-ltb}
use Rattle.bounded.specs.Search.{any, first}
use Rattle.bounded.proofs.Search.{any_at, first-none, first-nothing, and_now, not_refuted}
use Rattle.bounded.proofs.Search.{true_or_false, true_not_false}
use Rattle.machine.specs.Roles.{silent}
use Rattle.words.specs.Sets.{bit}
use Rattle.words.proofs.Sets.{bit_zero}
use Rattle.part.specs.Record.{states, events, Observer}
use Rattle.relations.specs.Relations.{role_at, is_role, concerns, leads, step_by, silent_step, reach_for, rule_at}
use Rattle.relations.proofs.SilentReach.{reach_self, reach_step}
use Rattle.restrictive.specs.Tests.{around}
use Rattle.restrictive.specs.Verdict.{event_violation, rule_violation, violation_for}
use Rattle.partition.specs.Classes.{same_class}
use Rattle.partition.specs.Sets.{Inside, AllDistinct, ClasswiseEqual}
use Rattle.relations.specs.Sets.{Concerned}
use Rattle.restrictive.specs.Sets.{led_to, reached, offer, beside, Asked, Offers}
use Rattle.restrictive.proofs.Offers.{broken_asked, not_led, none_at, none_by, beside-class}

-- ---- a state answers its own steps

module _ (b : List ℕ) (o : Observer) (i s t : ℕ) (hs : s < states b) (ht : t < states b) where
  -- a test that t passes, among the states of the class of t
  at_class : (f : ℕ → Bool) → f t ≡ true → any (states b) (λ v. f v && eqb (o.class v) (o.class t)) ≡ true
  at_class f e = any_at _ _ t ht (and_now _ _ e ∙ eq-eqb (o.class t) _ refl)

  around-step : leads b i s t ≡ true → around b o.level i s t ≡ true
  unfolding around
  around-step e =
      let last = any_at _ _ t ht (and_now _ _ e ∙ reach_self b _ t ht) in
      any_at _ _ s hs
      (and_now _ _ (reach_self b _ s hs) ∙ last)

  silent_there : i < events b → is_role silent (role_at b o.level i) ≡ true → leads b i s t ≡ true
      → silent_step b o.level s t ≡ true
  unfolding silent_step step_by
  silent_there l r e = any_at _ _ i l (and_now _ _ r ∙ e)

  own_offer : (k : ℕ) → 2 ≤ k → k < 5 → i < events b → Asked b o.level k i s t
      → offer b o.level o.class (rule_at k) i s (o.class t) ≡ true
  unfolding offer rule_at led_to reached
  own_offer zero h l p a = absurd (omega arith)
  own_offer (suc zero) h l p a = absurd (omega arith)
  own_offer (suc (suc zero)) h l p a = at_class (leads b i s) a.1
  own_offer (suc (suc (suc zero))) h l p a =
      at_class (reach_for b o.level s) (reach_step b _ s t hs ht (silent_there p a.0 a.1))
  own_offer (suc (suc (suc (suc zero)))) h l p a = at_class (around b o.level i s) (around-step a.1)
  own_offer (suc (suc (suc (suc (suc k))))) h l p a = absurd (omega arith)

-- ---- where the states beside each other offer the same

module _ (b : List ℕ) (o : Observer) (k i : ℕ) (h : 2 ≤ k) (l : k < 5) (placed : i < events b) where
  same_none : concerns (rule_at k) (role_at b o.level i) ≡ true
      → ((s u c : ℕ) → s < states b → u < states b → same_class (beside o (rule_at k)) u s ≡ true
      → offer b o.level o.class (rule_at k) i u c ≡ offer b o.level o.class (rule_at k) i s c)
      → event_violation b o k i ≡ none
  unfolding event_violation
  same_none speaks same =
      first-nothing _ _ (λ s hs.
      none_at b o k i s (λ t u ht hu.
      ⊎_elim
      (λ e.
      broken_asked b o k i s t u h l (speaks, e)
      ∙ not_refuted _ _ (λ q. same s u (o.class t) hs hu q ∙ own_offer b o i s t hs ht k h l placed (speaks, e)))
      (λ e. not_led b o k i s t u (omega arith) l speaks e)
      (true_or_false _)))

  -- the arrays say so
  pub equal-none : (offers : List ℕ) → concerns (rule_at k) (role_at b o.level i) ≡ true
      → Offers b o.level o.class k i offers
      → ClasswiseEqual (states b) (beside o (rule_at k)) offers → event_violation b o k i ≡ none
  equal-none offers speaks offering equal =
      same_none speaks (λ s u c hs hu q. sym (offering u hu c) ∙ ap (λ (x : ℕ). bit x c) (equal s u hs hu q)
      ∙ offering s hs c)

  distinct_none : concerns (rule_at k) (role_at b o.level i) ≡ true → Inside (states b) o.class o.fine
      → AllDistinct (states b) o.class → event_violation b o k i ≡ none
  distinct_none speaks inside distinct =
      same_none speaks (λ s u c hs hu q.
      ap (λ (v : ℕ). offer b o.level o.class (rule_at k) i v c)
      (distinct s u hs hu (beside-class o (states b) inside (rule_at k) s u hs hu q)))

-- ---- a rule that no event breaks

pub rule-none : (b : List ℕ) (o : Observer) (k : ℕ) → k < 5
    → ((i : ℕ) → i < events b → concerns (rule_at k) (role_at b o.level i) ≡ true → event_violation b o k i ≡ none)
    → rule_violation b o k ≡ none
unfolding rule_violation
rule-none b o k l f =
    first-nothing _ _ (λ i h.
    ⊎_elim (λ e. f i h e) (λ e. none_by b o k i l e) (true_or_false _))

-- No event that it speaks of.
pub unspoken : (b : List ℕ) (o : Observer) (k word : ℕ) → k < 5 → Concerned b o.level k word → word ≡ 0
    → rule_violation b o k ≡ none
unspoken b o k word l of e =
    rule-none b o k l (λ i h speaks.
    let there : bit word i ≡ true = of i ∙ and_now _ _ (lt-ltb _ _ h) ∙ speaks in
    absurd (true_not_false there (ap (λ (x : ℕ). bit x i) e ∙ bit_zero i)))

pub no-events : (b : List ℕ) (o : Observer) → events b ≡ 0 → violation_for b o ≡ none
unfolding violation_for
no-events b o e = first-nothing _ 5 (λ k l. rule-none b o k l (λ i h. absurd (omega arith)))

-- Where no two states share a class, rules 1 and 2 decide.
pub distinct_rules : (b : List ℕ) (o : Observer) → first 2 (rule_violation b o) ≡ none
    → Inside (states b) o.class o.fine → AllDistinct (states b) o.class → violation_for b o ≡ none
unfolding violation_for
distinct_rules b o two inside distinct =
    first-nothing _ 5 (λ k l.
    elim (dec_lt k 2) [
      | yes h ↦ first-none _ 2 two k h
      | no h ↦ rule-none b o k l (λ i p speaks. distinct_none b o k i (omega arith) l p speaks inside distinct)
    ])
