use Rattle.std.proofs.Common.{refl, sym}
use Rattle.bounded.specs.Search.{largest}
use Rattle.bounded.proofs.Search.{largest_next}
use Rattle.partition.proofs.ClassCounts.{larger}
use Rattle.partition.proofs.classes.Column.largest_count.Goals as goal

pub loop-class-init : goal.loop-class-init
unfolding largest
loop-class-init c = refl

pub loop-class-preserved : goal.loop-class-preserved
loop-class-preserved c =
    rw (c.max-most.ensures, larger c.loop-class.most _, c.loop-class.invariant, c.from.ensures) (sym (largest_next _ _))
