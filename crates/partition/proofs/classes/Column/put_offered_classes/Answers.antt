use Rattle.partition.proofs.ClassRows.{shared_none, shared_more}
use Rattle.partition.proofs.classes.Column.put_offered_classes.Goals as goal

pub loop-u-init : goal.loop-u-init
loop-u-init c = shared_none _ _ _ c.requires

pub loop-u-preserved : goal.loop-u-preserved
loop-u-preserved c =
    shared_more _ _ _ _ _ _ c.from-c.ensures (rw c.from-c.ensures (c.args.self.partition.below _ c.loop-u-test.true))
    c.intersection.ensures c.loop-u.invariant
