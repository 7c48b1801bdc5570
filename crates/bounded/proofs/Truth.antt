-- What a test says: the laws of tests that are joined, denied, or tried on every number below a bound. Each takes what
-- its parts say.
use Prim.Native.Nat.{ℕ}
use mathlib.Core.Path.{◌≡◌}
use mathlib.Core.Bool.{Bool, true, false, not, ◌||◌, ◌&&◌}
use mathlib.Core.Logic.{◌↔◌, ◌⊎◌, inl, inr, ⊎_elim}
use borrow.Author.Tests.{eq-eqb}
use lib.Dec.{T, T_not, not_T, eqb, eqb→eq}
use Rattle.bounded.specs.Search.{Below, any}
use Rattle.bounded.proofs.Search.{any_at, any_found, passed, passes}

pub eqb_iff : (m n : ℕ) → T (eqb m n) ↔ (m ≡ n)
eqb_iff m n = (eqb→eq m n, λ e. passes (eq-eqb m n e))

pub and_iff : {A B : Type 0} (a b : Bool) → T a ↔ A → T b ↔ B → T (a && b) ↔ (A × B)
and_iff true b p q = (λ t. (p.0 tt, q.0 t), λ w. q.1 w.1)
and_iff false b p q = (λ t. absurd t, λ w. p.1 w.0)

pub and-three_iff : {A B C : Type 0} (a b c : Bool) → T a ↔ A → T b ↔ B → T c ↔ C → T (a && b && c) ↔ (A × B × C)
and-three_iff a b c p q r =
    let w = and_iff (a && b) c (and_iff a b p q) r in
    (λ t. let ((x, y), z) = w.0 t in (x, y, z), λ (x, y, z). w.1 ((x, y), z))

pub or_iff : {A B : Type 0} (a b : Bool) → T a ↔ A → T b ↔ B → T (a || b) ↔ (A ⊎ B)
or_iff true b p q = (λ t. inl (p.0 tt), λ w. tt)
or_iff false b p q = (λ t. inr (q.0 t), ⊎_elim (λ x. absurd (p.1 x)) q.1)

pub not_iff : {A : Type 0} (a : Bool) → T a ↔ A → T (not a) ↔ (A → ⊥)
not_iff a p = (λ t x. T_not a t (p.1 x), λ n. not_T a (λ t. n (p.0 t)))

-- What a test decides holds where it cannot fail.
pub not-not : {A : Type 0} (a : Bool) → T a ↔ A → ((A → ⊥) → ⊥) → A
not-not true p n = p.0 tt
not-not false p n = absurd (n p.1)

-- ---- some number below a bound

any-passes : (n : ℕ) (f : ℕ → Bool) → T (any n f) → (i : Below n) × T (f i.0)
any-passes n f t = let (i, h, e) = any_found n f (passed _ t) in ((i, h), passes e)

pub any_iff : (n : ℕ) (f : ℕ → Bool) {P : Below n → Type 0} → ((i : Below n) → T (f i.0) ↔ P i)
    → T (any n f) ↔ ((i : Below n) × P i)
any_iff n f p = (
  λ t. let (i, r) = any-passes n f t in (i, (p i).0 r),
  λ (i, x). passes (any_at f n _ i.1 (passed _ ((p i).1 x))),
)

-- It passes two tests.
pub any_both_iff : (n : ℕ) (f g : ℕ → Bool) {P Q : Below n → Type 0} → ((i : Below n) → T (f i.0) ↔ P i)
    → ((i : Below n) → T (g i.0) ↔ Q i) → T (any n (λ i. f i && g i)) ↔ ((i : Below n) × P i × Q i)
any_both_iff n f g p q =
    let w = any_iff n _ (λ i. and_iff (f i.0) (g i.0) (p i) (q i)) in
    (λ t. let (i, (x, y)) = w.0 t in (i, x, y), λ (i, x, y). w.1 (i, (x, y)))
