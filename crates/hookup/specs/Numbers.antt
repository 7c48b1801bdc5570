-- The one number that a call from C answers with (document 01, "The shelf"; requests c and f).
use Rattle.std.specs.Prelude.{ℕ, ◌+◌}
use Rattle.std.proofs.Math.Option.{Option, none, some}
use Rattle.restrictive.specs.Verdict.{Verdict, pass, refused, breaks}
use Rattle.composite.specs.Joining.{Obstacle, refusal, clash, Side, first_record, second_record, Joining, length_is, unfit, stopped}

-- 0 for a pass, the refusal's number, or 100 plus the rule for a break.
unfoldable pub check_number : Verdict → ℕ
check_number pass = 0
check_number (refused k) = k
check_number (breaks v) = 100 + v.rule

-- 1,000 more where the record is B.
unfoldable pub side_number : Side → ℕ
side_number first_record = 0
side_number second_record = 1000

unfoldable pub obstacle_number : Obstacle → ℕ
obstacle_number (refusal k) = k
obstacle_number (clash e) = 10

-- 0 for a joined record, a record's own number with its side, or the refusal's number.
unfoldable pub join_number : Joining → ℕ
join_number (length_is n) = 0
join_number (unfit side v) = side_number side + check_number v
join_number (stopped o) = obstacle_number o

-- 0 where nothing is refused, or the refusal's number.
unfoldable pub refusal_number : Option ℕ → ℕ
refusal_number none = 0
refusal_number (some k) = k
