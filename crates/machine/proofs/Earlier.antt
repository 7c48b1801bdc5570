-- A machine that is restrictive with its internal events turned into outputs is restrictive: an event that was a low
-- output there and is silent here was answered by itself with silent steps around it, and these are silent steps here.
-- The two machines may have states of different types, related step by step.
use Prim.Native.Nat.{ℕ}
use mathlib.Core.Path.{◌≡◌, refl, sym, ap, ◌∙◌, subst}
use mathlib.Core.Bool.{Bool, true, false}
use mathlib.Core.Logic.{◌⊎◌, inl, inr, ⊎_elim}
use Rattle.machine.specs.Machine.{input, output, internal, Event, absent, event, Machine, Observation}
use Rattle.machine.specs.Roles.{Role, low_input, low_output, silent, at_level, role_of, role, IsInput}
use Rattle.machine.specs.Silent.{Silent}
use Rattle.machine.specs.Rules.{rule_1, rule_2, rule_3, rule_4, rule_5, Around, Answers, Restrictive}
use Rattle.machine.specs.Earlier.{as_output, EarlierRestrictive}
use Rattle.machine.proofs.Silent.{silent_one, silent-answer, answer-silent}
use Rattle.machine.proofs.Traces.{Sounds}

-- ---- roles

-- The role of an event in the earlier reading, and its role: the same, or a low output that is silent.
data Unseen : Role → Role → Type 0 where
  as_before : {r : Role} → Unseen r r
  not_seen : Unseen low_output silent

unseen_of : (is_low : ℕ → Bool) (x : Event) → Unseen (role_of is_low (as_output x)) (role_of is_low x)
unfolding role_of as_output at_level
unseen_of is_low absent = as_before
unseen_of is_low (event input l) = as_before
unseen_of is_low (event output l) = as_before
unseen_of is_low (event internal l) = go (is_low l)
  where
    go : (k : Bool) → Unseen (at_level output k) (at_level internal k)
    go true = not_seen
    go false = as_before

-- A role that is not silent was the same; a silent one was silent or a low output.
seen_alike : {x p r : Role} → Sounds x → Unseen p r → r ≡ x → p ≡ x
seen_alike n as_before h = h
seen_alike n not_seen h = absurd (subst Sounds (sym h) n)

input-alike : {p r : Role} → Unseen p r → IsInput r → IsInput p
input-alike u (inl h) = inl (seen_alike tt u h)
input-alike u (inr h) = inr (seen_alike tt u h)

silent_was : {p r : Role} → Unseen p r → r ≡ silent → (p ≡ silent) ⊎ (p ≡ low_output)
silent_was as_before h = inl h
silent_was not_seen h = inr refl

-- What was silent is silent.
silent-still : {p r : Role} → Unseen p r → p ≡ silent → r ≡ silent
silent-still as_before h = h
silent-still not_seen h = refl

-- ---- machines

-- M' is M in the earlier reading, with a relation of their states: each state of M has one of M' that is related to it,
-- related states have the same classes, and the steps from them go together.
pub record IsEarlier {S S' : Type 0} (M : Machine S) (O : Observation S) (M' : Machine S') (O' : Observation S')
    (R : S → S' → Type 0) : Type 0 where
  pub events : (e : ℕ) → M'.events e ≡ as_output (M.events e)
  pub lows : O'.low ≡ O.low
  pub there : (s : S) → (s' : S') × R s s'
  pub classes : {s : S} {s' : S'} → R s s' → O.class s ≡ O'.class s'
  pub fine_classes : {s : S} {s' : S'} → R s s' → O.fine s ≡ O'.fine s'
  pub forth : {e : ℕ} {s t : S} {s' : S'} → R s s' → M.step e s t → (t' : S') × M'.step e s' t' × R t t'
  pub back : {e : ℕ} {s : S} {s' t' : S'} → R s s' → M'.step e s' t' → (t : S) × M.step e s t × R t t'

module _ {S S' : Type 0} {M : Machine S} {O : Observation S} {M' : Machine S'} {O' : Observation S'}
    {R : S → S' → Type 0} (E : IsEarlier M O M' O' R) where
  unseen : (e : ℕ) → Unseen (role M' O' e) (role M O e)
  unseen e = rw (E.events e, E.lows) (unseen_of _ (M.events e))

  -- Silent paths of M', and those around an event, go back to M.
  silent_back : {s' t' : S'} → Silent M' O' s' t' → (s : S) → R s s' → (t : S) × Silent M O s t × R t t'
  silent_back =
      silent-answer M' O' M O (λ s' s. R s s')
      (λ e s' t' s h p r. let w = E.back r p in (w.0, silent_one M O e (silent-still (unseen e) h) w.1, w.2))

  around_back : {e : ℕ} {s' t' : S'} → Around M' O' e s' t' → (s : S) → R s s' → (t : S) × Around M O e s t × R t t'
  around_back a s r =
      let x = silent_back a.before s r in
      let y = E.back x.2 a.step in
      let z = silent_back a.after y.0 y.2 in
      (z.0, record { from = x.0; to = y.0; before = x.1; step = y.1; after = z.1 }, z.2)

  -- Where M steps from s to t, M' steps so too from related states, and what it answers there from a state of the class
  -- of s, or of its fine class, goes back to M.
  module _ (holds : Restrictive M' O') (u : S) {e : ℕ} {s t : S} (p : M.step e s t) where
    abbrev from : (s' : S') × R s s'
    from = E.there s

    abbrev step : (t' : S') × M'.step e from.0 t' × R t t'
    step = E.forth from.1 p

    abbrev other : (u' : S') × R u u'
    other = E.there u

    alike : O.class u ≡ O.class s → O'.class other.0 ≡ O'.class from.0
    alike q = sym (E.classes other.1) ∙ q ∙ E.classes from.1

    fine-alike : O.fine u ≡ O.fine s → O'.fine other.0 ≡ O'.fine from.0
    fine-alike q = sym (E.fine_classes other.1) ∙ q ∙ E.fine_classes from.1

    given_back : {A' : S' → Type 0} {A : S → Type 0} → ((v' : S') → A' v' → (v : S) × A v × R v v')
        → (v' : S') × A' v' × (O'.class v' ≡ O'.class step.0)
        → (v : S) × A v × (O.class v ≡ O.class t)
    given_back f w = let x = f w.0 w.1 in
        (x.0, x.1, E.classes x.2 ∙ w.2 ∙ sym (E.classes step.2))

    by_step : O.class u ≡ O.class s → role M' O' e ≡ low_input → Answers M O rule_3 e s t u
    by_step q h = given_back (λ v' a. E.back other.1 a) (holds rule_3 e _ _ _ (h, step.1, alike q))

    by_silent : O.fine u ≡ O.fine s → role M' O' e ≡ silent → Answers M O rule_4 e s t u
    by_silent q h = given_back (λ v' a. silent_back a u other.1) (holds rule_4 e _ _ _ (h, step.1, fine-alike q))

    by_around : O.fine u ≡ O.fine s → role M' O' e ≡ low_output → Answers M O rule_5 e s t u
    by_around q h = given_back (λ v' a. around_back a u other.1) (holds rule_5 e _ _ _ (h, step.1, fine-alike q))

  pub earlier_related : Restrictive M' O' → Restrictive M O
  earlier_related holds rule_1 e s t u h =
      let from = E.there s in
      let w = holds rule_1 e _ from.0 from.0 (input-alike (unseen e) h) in
      let x = E.back from.1 w.1 in
      (x.0, x.1)
  earlier_related holds rule_2 e s t u (h, p) =
      let from = E.there s in
      let step = E.forth from.1 p in
      E.classes step.2 ∙ holds rule_2 e _ _ from.0 (seen_alike tt (unseen e) h, step.1)
      ∙ sym (E.classes from.1)
  earlier_related holds rule_3 e s t u (h, p, q) = by_step holds u p q (seen_alike tt (unseen e) h)
  earlier_related holds rule_4 e s t u (h, p, q) =
      ⊎_elim
      (by_silent holds u p q)
      (λ l. answer-silent M O e s t u h (by_around holds u p q l))
      (silent_was (unseen e) h)
  earlier_related holds rule_5 e s t u (h, p, q) = by_around holds u p q (seen_alike tt (unseen e) h)

step_from : {S : Type 0} (M : Machine S) {e : ℕ} {s s' t : S} → s ≡ s' → M.step e s t → M.step e s' t
step_from M {e} {t = t} q p = subst (λ x. M.step e x t) q p

pub earlier_restrictive : EarlierRestrictive
earlier_restrictive S M O =
    earlier_related {R = λ s s'. s ≡ s'} (record {
      events = λ e. refl;
      lows = refl;
      there = λ s. (s, refl);
      classes = λ r. ap O.class r;
      fine_classes = λ r. ap O.fine r;
      forth = λ r p. (_, step_from M r p, refl);
      back = λ r p. (_, step_from M (sym r) p, refl);
    })
