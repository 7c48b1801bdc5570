use Rattle.script.specs.Answers.{item_of}
use Rattle.transcript.specs.Turn.{turn}
use Rattle.replay.proofs.TurnLaws.{turns_all, left_all, left_none, left_behind, front, read_item}
use Rattle.replay.proofs.operations.Goals as goal

pub loop-item-init : goal.loop-item-init
loop-item-init g c =
    rw (turns_all c.args.script.now c.args.shelf.now, c.into_iter-item-iterator.ensures.into_iter_gives, c.of-item-items.ensures)
    (left_all (g.W.Write.contents c.args.writer.now) _)

pub loop-item-preserved : goal.loop-item-preserved
loop-item-preserved g c =
    let read = read_item c.in-Some.item c.map.result c.map.ensures.cases in
    let turned = rw read at c.turn-n.ensures in
    let line = front (turn (item_of c.in-Some.item) c.loop-item.shelf).line _ turned.value turned.out_after in
    left_behind _ _ _ _ _ c.loop-item.shelf _ _ (rw c.in-Some.ensures.steps at c.loop-item.invariant)
    turned.shelf_after line c.in_ok-write_all.ensures.bytes

pub returns-clause-shelf_after : goal.returns-clause-shelf_after
returns-clause-shelf_after g c =
    (left_none _ _ c.loop-item.shelf (rw c.in-None.ensures.steps.0 at c.loop-item.invariant)).0

pub returns-clause-written : goal.returns-clause-written
returns-clause-written g c =
    (left_none _ _ c.loop-item.shelf (rw c.in-None.ensures.steps.0 at c.loop-item.invariant)).1
