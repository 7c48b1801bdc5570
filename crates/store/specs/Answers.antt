-- What the answers of the code mean.
use Rattle.std.specs.Prelude.{ℕ, Result, Ok, Err}
use Rattle.screening.specs.Answers.{number_of}
use Rattle.restrictive.specs.Answers.{violation_of}
use Rattle.restrictive.specs.declared.answer.Failure.{Failure}
use Rattle.restrictive.specs.declared.answer.Failure.TheVariants as failure
use Rattle.restrictive.specs.declared.answer.Failure.TheVariants.{Refused}
use Rattle.store.specs.declared.answer.Refusal.{Refusal}
use Rattle.store.specs.declared.answer.Refusal.TheVariants.{NoEnd, NoPart, Unfit, NoRoom, Rejected, Breaks}
use Rattle.store.specs.declared.answer.Refusal.TheVariants.{ObserversDiffer, Clash, TooLarge}
use Rattle.store.specs.Answer.{Answer, gives, refused, clash, breaks}

-- Each refusal: its number, the identifier of refusal 10, or a break.
abbrev pub refusal_of : Refusal → Answer
refusal_of NoEnd = refused 12
refusal_of NoPart = refused 13
refusal_of Unfit = refused 14
refusal_of NoRoom = refused 15
refusal_of (Rejected r) = refused (number_of r)
refusal_of (Breaks v) = breaks (violation_of v)
refusal_of ObserversDiffer = refused 9
refusal_of (Clash e) = clash e
refusal_of TooLarge = refused 11

-- The answer where the record that is loaded does not pass Check.
abbrev pub failure_answer : Failure → Answer
failure_answer (Refused r) = refused (number_of r)
failure_answer (failure.Breaks e) = breaks (violation_of e.violation)

-- A call's answer.
abbrev pub answer_of : Result ℕ Refusal → Answer
answer_of (Ok n) = gives n
answer_of (Err r) = refusal_of r
