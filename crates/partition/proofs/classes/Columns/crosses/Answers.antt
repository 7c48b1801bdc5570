use Rattle.partition.proofs.Refined.{crosses_by}
use Rattle.partition.proofs.classes.Columns.crosses.Goals as goal

pub returns : goal.returns
returns c =
    crosses_by _ _ _ _ c.class_of-labels.ensures _ (rw c.args.self.same_length at c.classwise_equal.ensures)
