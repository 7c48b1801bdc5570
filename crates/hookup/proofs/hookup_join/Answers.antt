use Rattle.std.proofs.Common.{refl}
use Rattle.composite.specs.Answers.{joining_of}
use Rattle.hookup.specs.Numbers.{obstacle_number, join_number}
use Rattle.hookup.proofs.hookup_join.Goals as goal

pub returns-in-Ok-clause-value : goal.returns-in-Ok-clause-value
unfolding join_number joining_of
returns-in-Ok-clause-value c = rw (← c.in-Ok.ensures.result_value) refl

pub returns-in-Err-Unfit-clause-value : goal.returns-in-Err-Unfit-clause-value
unfolding join_number joining_of
returns-in-Err-Unfit-clause-value c =
    rw (← (rw c.in-Err-Unfit.field-0-is at c.in-Err-Unfit.ensures.result_value)) (cc (c.side_number.ensures.value, c.failure_number.ensures.value))

pub returns-in-Err-Stopped-clause-value : goal.returns-in-Err-Stopped-clause-value
unfolding join_number joining_of
returns-in-Err-Stopped-clause-value c =
    rw (← (rw c.in-Err-Stopped.field-0-is at c.in-Err-Stopped.ensures.result_value)) c.obstacle_number.ensures

pub returns-in-Err-NoRoom-clause-value : goal.returns-in-Err-NoRoom-clause-value
unfolding join_number joining_of obstacle_number
returns-in-Err-NoRoom-clause-value c =
    rw (← (rw c.in-Err-NoRoom.field-0-is at c.in-Err-NoRoom.ensures.result_value)) refl
