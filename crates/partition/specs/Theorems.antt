-- What is proved of partitions, as statements. Their proofs stand in proofs/ under the names in lower case.
use Rattle.std.specs.Prelude.{ℕ, ◌≤◌, ◌<◌, ◌≡◌, List, length, get_or}

-- States of one class, of which no two have one fine class.
pub record Spread (n : ℕ) (class fine : ℕ → ℕ) (xs : List ℕ) : Type 0 where
  pub below : (i : ℕ) → i < length xs → get_or xs i 0 < n
  pub together : (i j : ℕ) → i < length xs → j < length xs → class (get_or xs i 0) ≡ class (get_or xs j 0)
  pub apart : (i j : ℕ) → i < j → j < length xs → fine (get_or xs i 0) ≡ fine (get_or xs j 0) → ⊥

-- The limit is the largest number of such states: so many there are, and never more.
pub record LimitOf (n : ℕ) (class fine : ℕ → ℕ) (k : ℕ) : Type 0 where
  pub reached : (xs : List ℕ) × (length xs ≡ k) × Spread n class fine xs
  pub most : (xs : List ℕ) → Spread n class fine xs → length xs ≤ k
