use Rattle.std.proofs.Common.{ℕ, ◌+◌, ap}
use Rattle.restrictive.specs.Answers.{violation_of, failure_of}
use Rattle.hookup.specs.Numbers.{check_number}
use Rattle.hookup.proofs.failure_number.Goals as goal

pub returns-in-Refused-clause-value : goal.returns-in-Refused-clause-value
unfolding check_number failure_of
returns-in-Refused-clause-value c = rw c.in-Refused.is c.number.ensures.value

pub returns-in-Breaks-clause-value : goal.returns-in-Breaks-clause-value
unfolding check_number failure_of violation_of
returns-in-Breaks-clause-value c = rw c.in-Breaks.is (ap (λ (k : ℕ). 100 + k) c.number-in-Breaks.ensures)
