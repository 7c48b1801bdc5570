-- What the answers of the code mean: the documents' numbers and values for each case.
use Rattle.std.specs.Prelude.{ℕ, suc, ◌≡◌, List, Result, Ok, Err}
use Rattle.screening.specs.Answers.{number_of}
use Rattle.relations.specs.Sets.{place_of}
use Rattle.restrictive.specs.declared.answer.Violation.{Violation}
use Rattle.restrictive.specs.declared.answer.Pass.{Pass}
use Rattle.restrictive.specs.declared.answer.Failure.{Failure}
use Rattle.restrictive.specs.declared.answer.Failure.TheVariants.{Refused, Breaks}
use Rattle.restrictive.specs.Verdict as plain

-- A violation as it is named: the observer's level, the rule's number, identifier, s, t, u.
unfoldable pub violation_of : Violation → plain.Violation
violation_of v = record { level = v.level; rule = suc (place_of v.rule); event = v.event; s = v.s; t = v.t; u = v.u }

-- A refusal by its number, a break with all its values.
unfoldable pub failure_of : Failure → plain.Verdict
failure_of (Refused r) = plain.refused (number_of r)
failure_of (Breaks e) = plain.breaks (violation_of e.violation)

-- A pass, or why there is none.
unfoldable pub verdict_of : Result Pass Failure → plain.Verdict
verdict_of (Ok p) = plain.pass
verdict_of (Err f) = failure_of f

-- How many states were taken up; none for a refusal.
unfoldable pub taken_of : Result Pass Failure → ℕ
taken_of (Ok p) = p.taken
taken_of (Err (Refused r)) = 0
taken_of (Err (Breaks e)) = e.taken

-- The limit of a record that passes, and otherwise 0.
unfoldable pub limit_of : Result Pass Failure → ℕ
limit_of (Ok p) = p.limit
limit_of (Err f) = 0

-- What Check reports of a record.
pub record Reports (b : List ℕ) (r : Result Pass Failure) : Type 0 where
  pub verdict : verdict_of r ≡ plain.verdict b
  pub taken : taken_of r ≡ plain.taken b
  pub limit : limit_of r ≡ plain.told_limit b
