-- The tests are the rules: each holds at the place of an event and at states exactly where the relation does.
use Prim.Native.Nat.{ℕ, ◌+◌}
use mathlib.Core.Path.{◌≡◌, refl, ap, subst}
use mathlib.Core.Bool.{Bool, not, ◌&&◌}
use mathlib.Core.List.{List}
use mathlib.Core.Option.{Option, none, some}
use mathlib.Core.Logic.{◌↔◌}
use lib.Dec.{T}
use Rattle.bounded.specs.Search.{any}
use Rattle.machine.specs.Roles.{missing, role_of, role}
use Rattle.machine.specs.Rules.{Rule, rule_1, rule_2, rule_3, rule_4, rule_5, Around, Asks, Answers, Broken}
use Rattle.level.specs.Level.{low}
use Rattle.part.specs.Record.{form_of, observer, states, class, observer_of}
use Rattle.screening.specs.Rejections.{Accepted}
use Rattle.screening.specs.Machine.{State, machine, observation}
use Rattle.part.specs.Events.{place}
use Rattle.part.proofs.Places.{event-none}
use Rattle.partition.specs.Classes.{same_class}
use Rattle.relations.specs.Relations.{role_at, concerns, leads, reach}
use Rattle.restrictive.specs.Tests.{around, asks, answers, broken}
use Rattle.bounded.proofs.Truth.{eqb_iff, and_iff, and-three_iff, not_iff, any_iff, any_both_iff}
use Rattle.relations.proofs.Roles.{Concerns, concerns_iff}
use Rattle.relations.proofs.SilentReach.{concerns_at, leads_iff, reach-silent}

-- ---- classes

module _ (b : List ℕ) (o : ℕ) where
  class_iff : (s t : State b) → T (same_class (class b o) s.0 t.0) ↔ (class b o s.0 ≡ class b o t.0)
  unfolding same_class
  class_iff s t = eqb_iff _ _

  -- Some state passes a test and has the class of t.
  in_class_iff : (f : ℕ → Bool) {P : State b → Type 0} → ((v : State b) → T (f v.0) ↔ P v) → (t : State b)
      → T (any (states b) (λ v. f v && same_class (class b o) v t.0))
      ↔ ((v : State b) × P v × ((observation b o).class v ≡ (observation b o).class t))
  in_class_iff f p t = any_both_iff _ f _ p (λ v. class_iff v t)

-- ---- an event at a place

module _ (b : List ℕ) (a : Accepted b) (o e i : ℕ) (p : place b e ≡ some i) where
  steps : (s t : State b) → T (leads b i s.0 t.0) ↔ (machine b a).step e s t
  steps = leads_iff b a o e i p

  -- An event that a rule speaks of leads from s to t, and u has the class of s in a column.
  step_iff : (q : Rule) (j : ℕ) (s t u : State b)
      → T (concerns q (role_at b (observer b o) i) && leads b i s.0 t.0 && same_class (class b j) u.0 s.0)
      ↔ (Concerns q (role (machine b a) (observation b o) e) × (machine b a).step e s
      t × (class b j u.0 ≡ class b j s.0))
  step_iff q j s t u =
      and-three_iff (concerns q (role_at b (observer b o) i)) (leads b i s.0 t.0)
      (same_class (class b j) u.0 s.0) (concerns_at b a o e i p q) (steps s t) (class_iff b j u s)

  pub asks_iff : (r : Rule) (s t u : State b)
      → T (asks b (observer_of b o) r i s.0 t.0 u.0) ↔ Asks (machine b a) (observation b o) r e s t u
  unfolding asks
  asks_iff rule_1 s t u = concerns_at b a o e i p rule_1
  asks_iff rule_2 s t u =
      and_iff (concerns rule_2 (role_at b (observer b o) i)) (leads b i s.0 t.0) (concerns_at b a o e i p rule_2)
      (steps s t)
  asks_iff rule_3 s t u = step_iff rule_3 o s t u
  asks_iff rule_4 s t u = step_iff rule_4 ((form_of b).finer + o) s t u
  asks_iff rule_5 s t u = step_iff rule_5 ((form_of b).finer + o) s t u

  around_iff : (u v : State b) → T (around b (observer b o) i u.0 v.0) ↔ Around (machine b a) (observation b o)
      e u v
  unfolding around
  around_iff u v =
      let n = states b in
      let w =
      any_both_iff n (reach b o u.0) (λ x. any n (λ y. leads b i x y && reach b o y v.0)) (reach-silent b a o u)
      (λ x. any_both_iff n (leads b i x.0) (λ y. reach b o y v.0) (steps x) (λ y. reach-silent b a o y v)) in (
        λ t. let (x, before, (y, step, after)) = w.0 t in
            record { from = x; to = y; before = before; step = step; after = after },
        λ r. w.1 (r.from, r.before, (r.to, r.step, r.after)),
      )

  pub answers_iff : (r : Rule) (s t u : State b)
      → T (answers b (observer_of b o) r i s.0 t.0 u.0) ↔ Answers (machine b a) (observation b o) r e s t u
  unfolding answers
  answers_iff rule_1 s t u = any_iff _ _ (steps s)
  answers_iff rule_2 s t u = class_iff b o t s
  answers_iff rule_3 s t u = in_class_iff b o (leads b i u.0) (steps u) t
  answers_iff rule_4 s t u = in_class_iff b o (reach b o u.0) (reach-silent b a o u) t
  answers_iff rule_5 s t u = in_class_iff b o (around b (observer b o) i u.0) (around_iff u) t

  pub broken_iff : (r : Rule) (s t u : State b)
      → T (broken b (observer_of b o) r i s.0 t.0 u.0) ↔ Broken (machine b a) (observation b o) r e s t u
  unfolding broken
  broken_iff r s t u =
      let answer = answers b (observer_of b o) r i s.0 t.0 u.0 in
      and_iff (asks b (observer_of b o) r i s.0 t.0 u.0) (not answer) (asks_iff r s t u)
      (not_iff answer (answers_iff r s t u))

-- ---- an event that is not in the record

module _ (b : List ℕ) (a : Accepted b) (o e : ℕ) (p : place b e ≡ none) where
  never : (q : Rule) → Concerns q (role (machine b a) (observation b o) e) → T (concerns q missing)
  unfolding role_of
  never q h = (concerns_iff q missing).1 (subst (Concerns q) (ap (role_of (low (observer b o))) (event-none b e p)) h)

  -- It is asked nothing.
  pub absent-asks : (r : Rule) (s t u : State b) → Asks (machine b a) (observation b o) r e s t u → ⊥
  absent-asks rule_1 s t u h = never rule_1 h
  absent-asks rule_2 s t u h = never rule_2 h.0
  absent-asks rule_3 s t u h = never rule_3 h.0
  absent-asks rule_4 s t u h = never rule_4 h.0
  absent-asks rule_5 s t u h = never rule_5 h.0

-- An event that is asked anything has a place.
pub asked_placed : (b : List ℕ) (a : Accepted b) (o : ℕ) (r : Rule) (e : ℕ) (s t u : State b)
    → Asks (machine b a) (observation b o) r e s t u
    → (i : ℕ) × (place b e ≡ some i)
asked_placed b a o r e s t u h = go (place b e) refl
  where
    go : (x : Option ℕ) → place b e ≡ x → (i : ℕ) × (place b e ≡ some i)
    go none p = absurd (absent-asks b a o e p r s t u h)
    go (some i) p = (i, p)
