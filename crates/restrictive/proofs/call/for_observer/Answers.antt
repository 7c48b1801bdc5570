use Rattle.restrictive.proofs.Verdicts.{ready}
use Rattle.restrictive.proofs.call.for_observer.Goals as goal

pub invariant_of-search : goal.invariant_of-search
invariant_of-search c = record {
  sound = rw (c.columns.ensures.fine, c.columns.ensures.column) (ready _ _ c.args.accepted.accepted c.requires);
}
