-- Answers that are neither 12 nor 14: numbers, breaks, a record's own refusals and the obstacles of two records.
use Prim.Native.Nat.{ℕ, zero, suc}
use mathlib.Core.Path.{◌≡◌, refl, ap, ◌∙◌, subst}
use mathlib.Core.Bool.{Bool, true, false, ◌||◌, or-true}
use mathlib.Core.List.{List, [], ◌∷◌}
use mathlib.Core.Option.{Option, none, some}
use native.Mathlib.Omega.{arith}
use lib.Dec.{eqb}
use borrow.Author.Tests.{eq-eqb}
use Rattle.bounded.specs.Search.{or_else, first, when}
use Rattle.bounded.proofs.Search.{or_now, true_not_false}
use Rattle.screening.specs.Rejections.{Condition, conditions}
use Rattle.restrictive.specs.Verdict as check
use Rattle.restrictive.specs.Verdict.{Violation, verdict}
use Rattle.restrictive.specs.Theorems.{FirstHolding, here, later}
use Rattle.restrictive.proofs.Theorems.{refused-exactly}
use Rattle.composite.specs.Joining as join
use Rattle.composite.specs.Joining.{Obstacle, refusal, clash_at, first_clash, obstacle}
use Rattle.store.specs.Answer.{gives, refused, clash, breaks, obstacle_answer}
use Rattle.store.specs.Demand.{Foreseen}

pub gives-foreseen : (n : ℕ) → Foreseen (gives n)
gives-foreseen n = record {
  not_12 = λ e. let z : ◌≡◌ {A = ℕ} 0 1 = cc in omega arith;
  not_14 = λ e. let z : ◌≡◌ {A = ℕ} 0 1 = cc in omega arith;
}

pub clash-foreseen : (e : ℕ) → Foreseen (clash e)
clash-foreseen e = record {
  not_12 = λ q. let z : ◌≡◌ {A = ℕ} 0 1 = cc in omega arith;
  not_14 = λ q. let z : ◌≡◌ {A = ℕ} 0 1 = cc in omega arith;
}

pub breaks-foreseen : (v : Violation) → Foreseen (breaks v)
breaks-foreseen v = record {
  not_12 = λ e. let z : ◌≡◌ {A = ℕ} 0 1 = cc in omega arith;
  not_14 = λ e. let z : ◌≡◌ {A = ℕ} 0 1 = cc in omega arith;
}

pub refused-foreseen : (k : ℕ) → (k ≡ 12 → ⊥) → (k ≡ 14 → ⊥) → Foreseen (refused k)
refused-foreseen k n m = record {
  not_12 = λ e. n (cc);
  not_14 = λ e. m (cc);
}

-- ---- a record's own refusal

-- One of the conditions has the number k.
unfoldable has_number : ℕ → List Condition → Bool
has_number k [] = false
has_number k (c ∷ cs) = eqb c.number k || has_number k cs

numbered : {b : List ℕ} {cs : List Condition} {k : ℕ} → FirstHolding b cs k → has_number k cs ≡ true
unfolding has_number
numbered (here {c = c} {cs = cs} t) =
    or_now (eqb c.number c.number) (has_number c.number cs) (eq-eqb c.number c.number refl)
numbered (later {c = c} {cs = cs} {k = k} f h) =
    ap (λ (p : Bool). eqb c.number k || p) (numbered h) ∙ or-true (eqb c.number k)

-- None has 12, and none has 14.
no_12 : has_number 12 conditions ≡ false
unfolding has_number
no_12 = refl

no_14 : has_number 14 conditions ≡ false
unfolding has_number
no_14 = refl

pub refusal-foreseen : (r : List ℕ) (k : ℕ) → verdict r ≡ check.refused k → Foreseen (refused k)
refusal-foreseen r k e =
    let n = numbered ((refused-exactly r k).0 e) in
    refused-foreseen k (λ q. true_not_false (rw q at n) no_12) (λ q. true_not_false (rw q at n) no_14)

-- ---- the obstacles

-- The obstacle's answer, where there is one, is foreseen.
abbrev AnyForeseen : Option Obstacle → Type 0
AnyForeseen none = Unit {0}
AnyForeseen (some o) = Foreseen (obstacle_answer o)

or_else-foreseen : (x y : Option Obstacle) → AnyForeseen x → AnyForeseen y → AnyForeseen (or_else x y)
unfolding or_else
or_else-foreseen none y f g = g
or_else-foreseen (some o) y f g = f

when_foreseen : (test : Bool) (o : Obstacle) → Foreseen (obstacle_answer o) → AnyForeseen (when test o)
unfolding when
when_foreseen true o f = f
when_foreseen false o f = tt

first-foreseen : (n : ℕ) (find : ℕ → Option Obstacle) → ((i : ℕ) → AnyForeseen (find i)) → AnyForeseen (first n find)
unfolding first
first-foreseen zero find f = tt
first-foreseen (suc n) find f = or_else-foreseen (first n find) (find n) (first-foreseen n find f) (f n)

any-foreseen : (a b : List ℕ) → AnyForeseen (obstacle a b)
unfolding obstacle first_clash clash_at obstacle_answer
any-foreseen a b =
    or_else-foreseen _ _
    (when_foreseen _ (refusal 9) (refused-foreseen 9 (λ e. omega arith) (λ e. omega arith)))
    (or_else-foreseen _ _
    (first-foreseen _ (clash_at a b) (λ i. when_foreseen _ (join.clash _) (clash-foreseen _)))
    (when_foreseen _ (refusal 11) (refused-foreseen 11 (λ e. omega arith) (λ e. omega arith))))

pub obstacle-foreseen : (a b : List ℕ) (o : Obstacle) → obstacle a b ≡ some o → Foreseen (obstacle_answer o)
obstacle-foreseen a b o e = subst AnyForeseen e (any-foreseen a b)
