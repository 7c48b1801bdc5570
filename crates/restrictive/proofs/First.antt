-- What a nested search finds: the first answer in the order of its levels; and so the first violation of a record.
use Prim.Native.Nat.{ℕ, suc, ◌≤◌, ◌<◌}
use mathlib.Core.Path.{◌≡◌, refl, sym, ap, ◌∙◌, subst}
use mathlib.Core.Bool.{Bool, true, false, cond}
use mathlib.Core.List.{List, [], ◌∷◌}
use mathlib.Core.Option.{Option, none, some}
use mathlib.Core.Logic.Iff
use mathlib.Core.Logic.{◌↔◌, ⊎_elim}
use native.Mathlib.Nat.{eq-or-lt_of_le}
use native.Mathlib.Decide.{dec_le}
use native.Mathlib.Omega.{arith}
use lib.Dec.{T}
use Rattle.bounded.specs.Search.{Below, first, when}
use Rattle.bounded.proofs.Search.{first-none, first-nothing, first_found, first_at}
use Rattle.part.specs.Record.{states, events, identifier, Observer}
use Rattle.part.proofs.Rising.{Rises}
use Rattle.restrictive.specs.Tests.{broken}
use Rattle.relations.specs.Relations.{rule_at}
use Rattle.restrictive.specs.Verdict.{Violation, violation_at, state_violation, event_violation, rule_violation}
use Rattle.restrictive.specs.Verdict.{violation_for}
use Rattle.restrictive.specs.Theorems.{Before, smaller, equal}

-- ---- the order of lists of numbers

before_le : {x y : ℕ} {xs ys : List ℕ} → Before (x ∷ xs) (y ∷ ys) → x ≤ y
before_le (smaller h) = omega arith
before_le (equal h) = omega arith

before-rest : {x y : ℕ} {xs ys : List ℕ} → x ≡ y → Before (x ∷ xs) (y ∷ ys) → Before xs ys
before-rest q (smaller h) = absurd (omega arith)
before-rest q (equal h) = h

before-equal : {x y : ℕ} {xs ys : List ℕ} → x ≡ y → Before xs ys → Before (x ∷ xs) (y ∷ ys)
before-equal q h = rw q (equal h)

before-nothing : {p q : List ℕ} → q ≡ [] → Before p q → ⊥
before-nothing e (smaller h) = let z : ◌≡◌ {A = ℕ} 0 1 = cc in omega arith
before-nothing e (equal h) = let z : ◌≡◌ {A = ℕ} 0 1 = cc in omega arith

-- ---- searches for the first of some answers

module _ {A : Type 0} where
  -- There is no answer.
  abbrev pub None : (A → Type 0) → Type 0
  None D = (x : A) → D x → ⊥

  -- No answer is before x.
  abbrev pub NoneBefore : (A → List ℕ) → (A → Type 0) → A → Type 0
  NoneBefore order D x = (y : A) → D y → Before (order y) (order x) → ⊥

  -- A search for the first of the answers D: it finds nothing exactly if there is none, and x exactly if x is one and
  -- none is before it.
  pub record Finds (order : A → List ℕ) (D : A → Type 0) (o : Option A) : Type 0 where
    pub nothing : (o ≡ none) ↔ None D
    pub something : (x : A) → (o ≡ some x) ↔ (D x × NoneBefore order D x)

  -- It is a search for the same answers said otherwise.
  pub finds_as : {order : A → List ℕ} {D E : A → Type 0} {o : Option A} → ((x : A) → D x ↔ E x) → Finds order D o
      → Finds order E o
  finds_as same w = record {
    nothing = Iff.trans w.nothing (λ c x d. c x ((same x).1 d), λ c x d. c x ((same x).0 d));
    something =
        λ x. Iff.trans (w.something x) (Iff.and (same x) (λ c y d. c y ((same y).1 d), λ c y d. c y ((same y).0 d)));
  }

  -- The answers of the numbers below n.
  abbrev pub Level : ℕ → (ℕ → A → Type 0) → A → Type 0
  Level n D x = (i : Below n) × D i.0 x

  -- One answer, if a test holds.
  finds_here : (c : Bool) (x : A) → Finds (λ y. []) (λ y. T c × (x ≡ y)) (cond c (some x) none)
  finds_here true x =
      record {
        nothing = (λ e. absurd (let z : ◌≡◌ {A = ℕ} 0 1 = cc in omega arith), λ n. absurd (n x (tt, refl)));
        something = λ y. (λ e. ((tt, cc), λ z d b. before-nothing refl b), λ w. ap some w.0.1);
      }
  finds_here false x =
      record {
        nothing = (λ e y d. d.0, λ n. refl);
        something = λ y. (λ e. absurd (let z : ◌≡◌ {A = ℕ} 0 1 = cc in omega arith), λ w. absurd w.0.0);
      }

-- ---- one level more

-- A number whose key is not larger is not larger.
rises_back : (key : ℕ → ℕ) (n : ℕ) → Rises key n → (i j : ℕ) → j < n → key j ≤ key i → j ≤ i
rises_back key n up i j h l = elim (dec_le j i) [ yes m ↦ m | no m ↦ absurd (omega (arith, up i j (omega arith) h)) ]

-- Where f i searches among the answers of i, and the order of these begins with a key that rises with i, `first n f`
-- searches among the answers of all numbers below n.
module _ {A : Type 0} (n : ℕ) (key : ℕ → ℕ) (up : Rises key n) (head : A → ℕ) (order : A → List ℕ) (D : ℕ → A → Type 0)
    (keyed : (i : ℕ) (x : A) → D i x → head x ≡ key i) where
  abbrev under : A → List ℕ
  under x = head x ∷ order x

  -- None is before an answer of i exactly if the numbers below i have none, and i has none before it.
  none-before_iff : (i : Below n) (x : A) → D i.0 x
      → NoneBefore under (Level n D) x ↔ (((j : ℕ) → j < i.0 → None (D j)) × NoneBefore order (D i.0) x)
  none-before_iff (i, h) x d = (
    λ c. (
      λ j l y e. c y ((j, omega arith), e) (smaller (omega (arith, keyed i x d, keyed j y e, up j i l h))),
      λ y e b. c y ((i, h), e) (before-equal (keyed i y e ∙ sym (keyed i x d)) b),
    ),
    λ c y ((j, l), e) b.
        ⊎_elim
        (λ q. c.1 y (subst (λ (k : ℕ). D k y) q e) (before-rest (keyed j y e ∙ ap key q ∙ sym (keyed i x d)) b))
        (λ m. c.0 j m y e)
        (eq-or-lt_of_le (rises_back _ n up i j l (omega (arith, keyed i x d, keyed j y e, before_le b)))),
  )

  pub finds_first : (f : ℕ → Option A) → ((i : ℕ) → i < n → Finds order (D i) (f i))
      → Finds under (Level n D) (first n f)
  finds_first f each = record {
    nothing = (
      λ e x ((i, h), d). (each i h).nothing.0 (first-none f n e i h) x d,
      λ c. first-nothing f n (λ i h. (each i h).nothing.1 (λ x d. c x ((i, h), d))),
    );
    something = λ x. (
      λ e.
          let w = first_found f n x e in
          let i : Below n = (w.at, w.below) in
          let (d, c) = ((each i.0 i.1).something x).0 w.found in
          ((i, d), (none-before_iff i x d).1 (λ j l. (each j (omega arith)).nothing.0 (w.before j l), c)),
      λ ((i, d), c).
          let m = (none-before_iff i x d).0 c in
          first_at f n x (record {
            at = i.0;
            below = i.1;
            found = ((each i.0 i.1).something x).1 (d, m.1);
            before = λ j l. (each j (omega arith)).nothing.1 (m.0 j l);
          }),
    );
  }

-- ---- the first violation

-- v is the violation of a rule for an observer by the event at a place at states where the test says that the rule is broken.
abbrev pub IsViolation : List ℕ → Observer → Violation → Type 0
IsViolation b o =
    let n = states b in
    Level 5 (λ k. Level (events b) (λ i. Level n (λ s. Level n (λ t. Level n (λ u v.
    T (broken b o (rule_at k) i s t u)
    × (record { level = o.level; rule = suc k; event = identifier b i; s = s; t = t; u = u } ≡ v))))))

pub level_of : (b : List ℕ) (o : Observer) (v : Violation) → IsViolation b o v → v.level ≡ o.level
level_of b o v (k, (i, (s, (t, (u, (c, q)))))) = ap (λ (w : Violation). w.level) (sym q)

-- The search for it finds the first in the order in which violations are named, from the rule on.
abbrev pub from_rule : Violation → List ℕ
from_rule v = v.rule ∷ v.event ∷ v.s ∷ v.t ∷ v.u ∷ []

pub finds_violation : (b : List ℕ) (o : Observer) → Rises (identifier b) (events b)
    → Finds from_rule (IsViolation b o) (violation_for b o)
unfolding violation_for rule_violation event_violation state_violation violation_at when
finds_violation b o up =
    let n = states b in
    let same : Rises (λ s. s) n = λ i j l h. l in
    finds_first 5 suc (λ i j l h. omega arith) (λ v. v.rule) _ _ (λ j v d. cc) _ (λ k h.
    finds_first _ _ up (λ v. v.event) _ _ (λ j v d. cc) _ (λ i h.
    finds_first n _ same (λ v. v.s) _ _ (λ j v d. cc) _ (λ s h.
    finds_first n _ same (λ v. v.t) _ _ (λ j v d. cc) _ (λ t h.
    finds_first n _ same (λ v. v.u) _ _ (λ j v d. cc) _ (λ u h.
    finds_here (broken b o (rule_at k) i s t u) _)))))
