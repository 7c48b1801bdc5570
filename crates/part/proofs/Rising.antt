-- Sequences of numbers that rise strictly. Two of them with the same members are the same.
use Prim.Native.Nat.{ℕ, zero, suc, ◌≤◌, ◌<◌}
use mathlib.Core.Path.{◌≡◌, sym, ap, ◌∙◌, subst}
use mathlib.Core.Logic.{⊎_elim}
use native.Mathlib.Nat.{eq-or-lt_of_le, le_of_suc-le-suc, not-suc-le-zero}
use native.Mathlib.Decide.{dec_le}
use native.Mathlib.Omega.{arith}

-- f rises below m.
abbrev pub Rises : (ℕ → ℕ) → ℕ → Type 0
Rises f m = (i j : ℕ) → i < j → j < m → f i < f j

-- Each f i with i below m is some g j with j below k.
abbrev pub Within : (ℕ → ℕ) → ℕ → (ℕ → ℕ) → ℕ → Type 0
Within f m g k = (i : ℕ) → i < m → (j : ℕ) × (j < k) × (f i ≡ g j)

-- It is enough to rise from each number to the next.
pub rises : (f : ℕ → ℕ) (m : ℕ) → ((i : ℕ) → suc i < m → f i < f (suc i)) → Rises f m
rises f m step i zero l h = absurd (not-suc-le-zero l)
rises f m step i (suc j) l h =
    let last = step j h in
    ⊎_elim
    (λ q. subst (λ (n : ℕ). f n < f (suc j)) (sym q) last)
    (λ (n : i < j). let before = rises f m step i j n (omega arith) in omega arith)
    (eq-or-lt_of_le (le_of_suc-le-suc l))

module _ (f : ℕ → ℕ) (m : ℕ) (up : Rises f m) where
  pub rises_le : (i j : ℕ) → i ≤ j → j < m → f i ≤ f j
  rises_le i j l h =
      ⊎_elim (λ q. let e = ap f q in omega arith) (λ n. let u = up i j n h in omega arith) (eq-or-lt_of_le l)

  -- no earlier number has the same value
  not-before : (i j : ℕ) → j < m → (i < j → f i ≡ f j) → j ≤ i
  not-before i j h e =
      elim (dec_le j i) [ yes l ↦ l | no l ↦ absurd (omega (arith, e (omega arith), up i j (omega arith) h)) ]

module _ (f g : ℕ → ℕ) (m k : ℕ) (up : Rises f m) (up' : Rises g k) (here : Within f m g k) (there : Within g k f m)
  where
    -- where f and g agree below n, they agree at n: f n is g j with n ≤ j, and g n is f l with n ≤ l
    next : (n : ℕ) → n < m → ((i : ℕ) → i < n → (i < k) × (f i ≡ g i)) → (n < k) × (f n ≡ g n)
    next n h below =
        let w = here n h in
        let over = not-before f m up _ n h (λ l. (below w.0 l).1 ∙ sym w.2) in
        let v = there n (omega arith) in
        let over' = not-before g k up' _ n (omega arith) (λ l. sym (below v.0 l).1 ∙ sym v.2) in
        omega (arith, rises_le f m up n _ over' v.1, rises_le g k up' n _ over w.1)

    agree_below : (n : ℕ) → n ≤ m → (i : ℕ) → i < n → (i < k) × (f i ≡ g i)
    agree_below zero h i l = absurd (not-suc-le-zero l)
    agree_below (suc n) h i l =
        let below = agree_below n (omega arith) in
        ⊎_elim (λ q. subst (λ (i : ℕ). (i < k) × (f i ≡ g i)) (sym q) (next n h below)) (below i)
        (eq-or-lt_of_le (le_of_suc-le-suc l))

    agree : (i : ℕ) → i < m → (i < k) × (f i ≡ g i)
    agree = agree_below m (omega arith)

    not_longer : m ≤ k
    not_longer = elim (dec_le m k) [ yes l ↦ l | no l ↦ absurd (omega (arith, (agree k (omega arith)).0)) ]

-- Two rising sequences with the same members are as long as one another, and equal place by place.
pub same_sequence : (f g : ℕ → ℕ) (m k : ℕ) → Rises f m → Rises g k → Within f m g k → Within g k f m
    → (m ≡ k) × ((i : ℕ) → i < m → f i ≡ g i)
same_sequence f g m k up up' here there = (
  omega (arith, not_longer f g m k up up' here there, not_longer g f k m up' up there here),
  λ i l. (agree f g m k up up' here there i l).1,
)
