use Rattle.std.proofs.Common.{◌≡◌, ℕ, List, Result, Ok, Err, is_ok, refl, ◌∙◌}
use Rattle.restrictive.specs.declared.answer.Pass.{Pass}
use Rattle.restrictive.specs.declared.answer.Failure.{Failure}
use Rattle.restrictive.specs.declared.answer.Failure.TheVariants.{Refused, Breaks}
use Rattle.restrictive.specs.Verdict.{verdict}
use Rattle.restrictive.specs.Answers.{failure_of, verdict_of}
use Rattle.store.specs.Calls.{passes}
use Rattle.store.proofs.call.passes.Goals as goal

ok_passes : (r : Result Pass Failure) (b : List ℕ) → verdict_of r ≡ verdict b → is_ok r ≡ passes b
unfolding passes verdict_of failure_of
ok_passes (Ok p) b e = rw (← e, passes) refl
ok_passes (Err (Refused k)) b e = rw (← e, passes) refl
ok_passes (Err (Breaks f)) b e = rw (← e, passes) refl

pub returns : goal.returns
returns c = c.is_ok.ensures.value ∙ ok_passes _ _ c.check.ensures.verdict
