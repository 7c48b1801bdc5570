use Rattle.script.specs.Sequence.{operations}
use Rattle.batch.proofs.Calls.{Passed}
use Rattle.batch.proofs.listing.listing.Given as goal

abbrev pub invariant-loop-item : goal.invariant-loop-item
invariant-loop-item l = Passed l.script l.n (operations l.item-iterator.rest.now)
