use Rattle.std.proofs.Common.{ap, ◌∙◌}
use Rattle.words.specs.Sets.{union}
use Rattle.partition.proofs.Sorted.{sorted_none, sorted_more}
use Rattle.partition.proofs.classes.Column.put_states.Goals as goal

pub loop-s-init : goal.loop-s-init
loop-s-init c = sorted_none _ _ _ c.requires

pub loop-s-preserved : goal.loop-s-preserved
loop-s-preserved c =
    sorted_more _ _ _ _ _ _ c.from-c.ensures (rw c.from-c.ensures (c.args.self.partition.below _ c.loop-s-test.true))
    (c.union.ensures ∙ ap (union _) c.single.ensures) c.loop-s.invariant
