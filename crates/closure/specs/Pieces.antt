-- What the writer lays for a number, where steps lead among the numbers below n. No promise of the call rests on this page.
use Rattle.std.specs.Prelude.{ℕ, Bool, List}
use Rattle.bounded.specs.Paths.{reaches, visits_by, distances_by}
use Rattle.words.specs.Sets.{mask}
use Rattle.closure.specs.Closures.{piece_bytes}

-- The set of what is reached, the visits, and their distances.
unfoldable pub piece_by : (ℕ → ℕ → Bool) → ℕ → ℕ → List ℕ
piece_by step n s = piece_bytes (mask n (reaches step n s)) (visits_by step n s) (distances_by step n s)
