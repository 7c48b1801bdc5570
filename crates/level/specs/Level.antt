-- Levels (document 01, "Levels"): one byte, with a rank in bits 7 and 6 and compartments in bits 5 to 0.
use Rattle.std.specs.Prelude.{ℕ, ◌/◌, ◌%◌, ◌≤◌, ◌<◌, ◌≡◌, Bool, not, ◌||◌, ◌&&◌, T, leb, eqb}
use Rattle.bounded.specs.Search.{any, all}
use Rattle.words.specs.Sets.{bit}

-- The rank, 0 to 3.
unfoldable pub rank : ℕ → ℕ
rank a = a / 64

-- The compartment bits, as a set.
unfoldable pub compartments : ℕ → ℕ
compartments a = a % 64

-- Level a is at or below b: its rank is at most b's, and each compartment of a is one of b's.
pub record AtOrBelow (a b : ℕ) : Type 0 where
  pub ranks : rank a ≤ rank b
  pub within : (c : ℕ) → c < 6 → T (bit a c) → T (bit b c)

-- The same as a test.
unfoldable pub at_or_below : ℕ → ℕ → Bool
at_or_below a b = leb (rank a) (rank b) && all 6 (λ c. not (bit a c) || bit b c)

-- A level is low for an observer's level where it is at or below it, and otherwise high: incomparable is high.
unfoldable pub low : ℕ → ℕ → Bool
low observer a = at_or_below a observer

-- Level a is mislabelled: its rank is 0, and it has a compartment (document 02, d).
pub record Mislabelled (a : ℕ) : Type 0 where
  pub lowest : rank a ≡ 0
  pub compartment : (c : ℕ) × (c < 6) × T (bit a c)

-- The same as a test.
unfoldable pub mislabelled : ℕ → Bool
mislabelled a = eqb (rank a) 0 && any 6 (bit a)
