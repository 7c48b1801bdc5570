-- Arrays that are filled from their start.
use Rattle.std.specs.Prelude.{ℕ, ◌-◌, ◌≤◌, ◌<◌, ◌≡◌, Bool, List, ◌++◌, length, get_or, replicate}
use Rattle.words.specs.Sets.{Represents}

-- A list, and zeros behind it, n elements in all.
unfoldable pub padded : ℕ → List ℕ → List ℕ
padded n xs = xs ++ replicate (n - length xs) 0

-- `new`, of 64 words, is `old` with its first n words filled: word s is as `holds s` says, and the words behind them are as they were.
pub record Filled (holds : ℕ → ℕ → Type 0) (n : ℕ) (old new : List ℕ) : Type 0 where
  pub size : length new ≡ 64
  pub words : (s : ℕ) → s < n → holds s (get_or new s 0)
  pub kept : (s : ℕ) → n ≤ s → get_or new s 0 ≡ get_or old s 0

-- Word s is f s.
abbrev pub words_of : (ℕ → ℕ) → ℕ → ℕ → Type 0
words_of f s x = x ≡ f s

-- Word s is the set of the numbers that pass test s.
abbrev pub sets_of : (ℕ → ℕ → Bool) → ℕ → ℕ → Type 0
sets_of test s x = Represents x (test s)
