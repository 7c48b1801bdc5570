-- The answers of the calls on a shelf, with the documents' numbers and values.
use Rattle.std.specs.Prelude.{ℕ}
use Rattle.restrictive.specs.Verdict.{Violation}
use Rattle.composite.specs.Joining as joining

-- A number: 0 of Clear, a part's number, a count; a refusal by its number; refusal 10 with its identifier; a break.
pub data Answer : Type 0 where
  gives : ℕ → Answer
  refused : ℕ → Answer
  clash : ℕ → Answer
  breaks : Violation → Answer

-- The answer where something stands between two parts.
unfoldable pub obstacle_answer : joining.Obstacle → Answer
obstacle_answer (joining.refusal k) = refused k
obstacle_answer (joining.clash e) = clash e

-- The number that an answer gives or is told by; of a break the rule's.
abbrev pub number_of : Answer → ℕ
number_of (gives n) = n
number_of (refused k) = k
number_of (clash e) = 10
number_of (breaks v) = v.rule
