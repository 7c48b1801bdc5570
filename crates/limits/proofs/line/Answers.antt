use Rattle.composite.specs.Answers.{joining_of}
use Rattle.limits.specs.Pairs.{answer_line}
use Rattle.limits.proofs.LineLaws.{last_text, line_is}
use Rattle.limits.proofs.line.Goals as goal

pub returns-in-Ok : goal.returns-in-Ok
unfolding answer_line joining_of
returns-in-Ok g c =
    last_text c.end_line.result _ _ _ c.args.words.now _ c.in_ok-write_all.ensures.bytes
    (line_is c.args.words.now c.args.a.now c.args.b.now _ c.in-Ok.ensures.result_value) c.end_line.ensures

pub returns-in-Err-Stopped : goal.returns-in-Err-Stopped
unfolding joining_of
returns-in-Err-Stopped g c =
    last_text c.stopped.result _ _ _ c.args.words.now _ c.in_ok-write_all.ensures.bytes
    (line_is c.args.words.now c.args.a.now c.args.b.now _ (rw c.in-Err-Stopped.field-0-is at c.in-Err-Stopped.ensures.result_value)) c.stopped.ensures

pub returns-in-Err-Unfit : goal.returns-in-Err-Unfit
unfolding answer_line joining_of
returns-in-Err-Unfit g c =
    last_text c.no_record.result _ _ _ c.args.words.now _ c.in_ok-write_all.ensures.bytes
    (line_is c.args.words.now c.args.a.now c.args.b.now _ (rw c.in-Err-Unfit.field-0-is at c.in-Err-Unfit.ensures.result_value)) c.no_record.ensures

pub returns-in-Err-NoRoom : goal.returns-in-Err-NoRoom
unfolding answer_line joining_of
returns-in-Err-NoRoom g c =
    let none = c.no_record-in-Err-NoRoom in
    last_text none.result _ _ _ c.args.words.now _ c.in_ok-write_all.ensures.bytes
    (line_is c.args.words.now c.args.a.now c.args.b.now _ (rw c.in-Err-NoRoom.field-0-is at c.in-Err-NoRoom.ensures.result_value)) none.ensures
