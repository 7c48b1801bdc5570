use Rattle.std.proofs.Common.{◌≡◌}
use Rattle.std.proofs.Math.Option.{some}
use Rattle.script.specs.Answers.{operation_of, item_of}
use Rattle.batch.specs.Script.{call_of}
use Rattle.batch.proofs.Calls.{some-call, no_call, no_stop}
use Rattle.batch.proofs.Runs.{made_none, made_end, made-room, made_only, made_next}
use Rattle.batch.proofs.run.perform_all.Goals as goal

pub loop-item-init : goal.loop-item-init
loop-item-init c =
    rw (c.into_iter-item-iterator.ensures.into_iter_gives, c.of-item-items.ensures)
    (made_none c.args.script.now c.args.shelf.now c.args.out.now c.requires.script_value c.requires.has_room)

pub returns-in_default : goal.returns-in_default
returns-in_default c =
    let m = rw c.in-Some.ensures.steps at c.loop-item.invariant in
    absurd (made_only _ _ _ _ _ _ _ _ m (rw c.in_default.is (no_stop _)))

pub returns-in_default-operation : goal.returns-in_default-operation
unfolding item_of
returns-in_default-operation c =
    let m = rw c.in-Some.ensures.steps at c.loop-item.invariant in
    absurd (made_only _ _ _ _ _ _ _ _ m (rw c.in-Ok.is (no_call _ c.in_default-operation.not-Call)))

pub put_answer-requires : goal.put_answer-requires
put_answer-requires c =
    let m = rw c.in-Some.ensures.steps at c.loop-item.invariant in
    made-room _ _ _ _ _ _ _ _ m

pub loop-item-preserved : goal.loop-item-preserved
unfolding item_of operation_of
loop-item-preserved c =
    let m = rw c.in-Some.ensures.steps at c.loop-item.invariant in
    let call = some-call c.in-Call.call in
    let is : call_of (item_of c.in-Some.item) ≡ some call.call = rw (c.in-Ok.is, c.in-Call.is) call.is in
    let done = c.perform.ensures call.call call.is in
    let laid = rw done.0 at c.put_answer.ensures in
    made_next _ _ _ _ _ _ _ _ m call.call _ _ is done.1 laid

pub returns-clause-shelf_after : goal.returns-clause-shelf_after
returns-clause-shelf_after c =
    (made_end _ _ _ _ _ _ (rw c.in-None.ensures.steps.0 at c.loop-item.invariant)).0

pub returns-clause-out_after : goal.returns-clause-out_after
returns-clause-out_after c =
    (made_end _ _ _ _ _ _ (rw c.in-None.ensures.steps.0 at c.loop-item.invariant)).1
