-- What the count of a script's calls finds, as the functions of this crate use it among themselves.
use Rattle.std.specs.Prelude.{ℕ, ◌≡◌, List, length, Result, MatchResult}
use Rattle.std.proofs.Math.Option.{none, some}
use Rattle.batch.specs.declared.answer.NotRun.{NotRun}
use Rattle.batch.specs.declared.answer.NotRun.TheVariants.{Malformed}
use Rattle.batch.specs.Script.{calls, listed}

-- The script has n calls.
pub record Listed (s : List ℕ) (n : ℕ) : Type 0 where
  pub all : calls s ≡ some (listed s)
  pub many : length (listed s) ≡ n

-- The script is malformed, and so it is answered.
pub record Unlisted (s : List ℕ) (why : NotRun) : Type 0 where
  pub none_listed : calls s ≡ none
  pub told : why ≡ Malformed

-- How many calls a script has, if it is not malformed.
abbrev pub Counts : Result ℕ NotRun → List ℕ → Type 0
Counts r s = MatchResult r (λ n. Listed s n) (λ why. Unlisted s why)
