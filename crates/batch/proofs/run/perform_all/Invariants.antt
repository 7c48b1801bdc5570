use Rattle.script.specs.Sequence.{operations}
use Rattle.batch.proofs.Runs.{Made}
use Rattle.batch.proofs.run.perform_all.Given as goal

abbrev pub invariant-loop-item : goal.invariant-loop-item
invariant-loop-item l =
    Made l.script l.initial.shelf l.initial.out l.shelf l.out (operations l.item-iterator.rest.now) l.slot
