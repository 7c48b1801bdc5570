use Rattle.script.specs.Sequence.{operations}
use Rattle.replay.specs.Transcript.{all_turns}
use Rattle.replay.proofs.TurnLaws.{turns_of, Left}
use Rattle.replay.proofs.operations.Given as goal

abbrev pub invariant-loop-item : goal.invariant-loop-item
invariant-loop-item g l =
    Left (g.W.Write.contents l.fn.writer) (g.W.Write.contents l.writer) (all_turns l.script l.fn.shelf)
    (turns_of (operations l.item-iterator.rest.now) l.shelf)
