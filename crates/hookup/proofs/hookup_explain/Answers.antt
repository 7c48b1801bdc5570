use Rattle.std.proofs.Common.{ap, ◌∙◌}
use Rattle.explain.specs.Answers.{explaining_of}
use Rattle.hookup.specs.Numbers.{check_number}
use Rattle.hookup.proofs.hookup_explain.Goals as goal

pub returns-in-Ok-clause-value : goal.returns-in-Ok-clause-value
unfolding explaining_of
returns-in-Ok-clause-value c = c.check_number.ensures ∙ ap check_number c.in-Ok.ensures.result_value

pub returns-in-Err-clause-value : goal.returns-in-Err-clause-value
unfolding explaining_of check_number
returns-in-Err-clause-value c = ap check_number c.in-Err.ensures.result_value
