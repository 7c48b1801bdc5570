-- Searches over the numbers below a bound, and what is collected from them. They compute, try 0, 1, 2, .. in that order, and a loop that
-- has tried the numbers below i has computed exactly the search below i.
use Rattle.std.specs.Prelude.{ℕ, zero, suc, ◌+◌, ◌<◌, max, Bool, true, false, ◌||◌, ◌&&◌, cond, List, [], ◌∷◌, ◌++◌}
use Rattle.std.proofs.Math.Option.{Option, none, some}

-- A number below n.
abbrev pub Below : ℕ → Type 0
Below n = (i : ℕ) × (i < n)

-- Some number below n passes the test.
unfoldable pub any : ℕ → (ℕ → Bool) → Bool
any zero test = false
any (suc n) test = any n test || test n

-- Every number below n passes the test.
unfoldable pub all : ℕ → (ℕ → Bool) → Bool
all zero test = true
all (suc n) test = all n test && test n

-- The first answer, or else the second.
unfoldable pub or_else {ℓ} : {A : Type ℓ} → Option A → Option A → Option A
or_else none b = b
or_else (some a) b = some a

-- The answer, where the test holds.
unfoldable pub when {ℓ} : {A : Type ℓ} → Bool → A → Option A
when test a = cond test (some a) none

-- What is found at the first number below n where anything is found.
unfoldable pub first {ℓ} : {A : Type ℓ} → ℕ → (ℕ → Option A) → Option A
unfolding or_else
first zero find = none
first (suc n) find = or_else (first n find) (find n)

-- The least number below n that passes the test.
unfoldable pub least : ℕ → (ℕ → Bool) → Option ℕ
least n test = first n (λ i. when (test i) i)

-- How many numbers below n pass the test.
unfoldable pub count : ℕ → (ℕ → Bool) → ℕ
count zero test = 0
count (suc n) test = count n test + cond (test n) 1 0

-- The sum over the numbers below n.
unfoldable pub total : ℕ → (ℕ → ℕ) → ℕ
total zero size = 0
total (suc n) size = total n size + size n

-- The largest over the numbers below n; 0 where there are none.
unfoldable pub largest : ℕ → (ℕ → ℕ) → ℕ
largest zero size = 0
largest (suc n) size = max (largest n size) (size n)

-- chunk 0, chunk 1, .., chunk (n - 1), one behind the other.
unfoldable pub each : ℕ → (ℕ → List ℕ) → List ℕ
each zero chunk = []
each (suc n) chunk = each n chunk ++ chunk n

-- The numbers below n that pass the test, lowest first.
unfoldable pub listed : ℕ → (ℕ → Bool) → List ℕ
listed n test = each n (λ i. cond (test i) (i ∷ []) [])
