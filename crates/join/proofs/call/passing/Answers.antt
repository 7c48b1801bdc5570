use Rattle.std.proofs.Common.{◌≡◌, sym, ◌∙◌}
use Rattle.restrictive.specs.Verdict.{pass, verdict}
use Rattle.restrictive.specs.Answers.{verdict_of}
use Rattle.screening.proofs.Ranges.{frame}
use Rattle.composite.specs.Answers.{joining_of}
use Rattle.join.proofs.JoinAnswers.{fails_of, fails_answer, passing-accepted}
use Rattle.join.proofs.call.passing.Goals as goal
use Rattle.join.proofs.call.passing.Goals.{In-Ok}

passed : (c : In-Ok) → verdict c.args.bytes.now ≡ pass
unfolding verdict_of
passed c = sym c.in-Ok.ensures.verdict

pub of-requires : goal.of-requires
of-requires c = frame _ (passing-accepted _ (passed c))

pub of-requires-in-Ok : goal.of-requires-in-Ok
of-requires-in-Ok c = rw c.of.ensures (passing-accepted _ (passed (goal.at.of-requires-in-Ok c).In-Ok))

pub returns-in-Ok-clause-passes : goal.returns-in-Ok-clause-passes
returns-in-Ok-clause-passes c = (c.of-in-Ok.ensures ∙ c.of.ensures, passed (goal.at.returns-in-Ok-clause-passes c).In-Ok)

pub returns-in-Err-clause-unfit : goal.returns-in-Err-clause-unfit
unfolding joining_of verdict_of
returns-in-Err-clause-unfit c = λ next. rw (← c.in-Err.ensures.verdict) (fails_answer _ next (fails_of _))
