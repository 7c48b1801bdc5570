use Rattle.std.proofs.Common.{refl, ◌∙◌}
use Rattle.restrictive.specs.Answers.{verdict_of}
use Rattle.hookup.specs.Numbers.{check_number}
use Rattle.hookup.proofs.Numbered.{as_number}
use Rattle.hookup.proofs.check_number.Goals as goal

pub returns-in-Ok : goal.returns-in-Ok
unfolding check_number verdict_of
returns-in-Ok c = as_number verdict_of check_number c.in-Ok.is refl

pub returns-in-Err : goal.returns-in-Err
unfolding verdict_of
returns-in-Err c = c.failure_number.ensures.value ∙ as_number verdict_of check_number c.in-Err.is refl
