use Rattle.std.proofs.Common.{Err, sym, ap, ◌∙◌}
use Rattle.closure.specs.Answers.{refusal_of}
use Rattle.hookup.specs.Numbers.{refusal_number}
use Rattle.hookup.proofs.hookup_closure.Goals as goal

pub returns-in-Ok-clause-value : goal.returns-in-Ok-clause-value
unfolding refusal_number refusal_of
returns-in-Ok-clause-value c = ap refusal_number c.in-Ok.ensures.result_value

pub returns-in-Err-Refused-clause-value : goal.returns-in-Err-Refused-clause-value
unfolding refusal_number refusal_of
returns-in-Err-Refused-clause-value c =
    c.number.ensures.value
    ∙ sym (ap (λ r. refusal_number (refusal_of r)) (c.in-Err-Refused.is ∙ ap Err c.in-Err-Refused.field-0-is))
    ∙ ap refusal_number c.list_closures.ensures.result_value

pub returns-in-Err-NoRoom-clause-value : goal.returns-in-Err-NoRoom-clause-value
unfolding refusal_number refusal_of
returns-in-Err-NoRoom-clause-value c =
    sym (ap (λ r. refusal_number (refusal_of r)) (c.in-Err-NoRoom.is ∙ ap Err c.in-Err-NoRoom.field-0-is))
    ∙ ap refusal_number c.list_closures.ensures.result_value
