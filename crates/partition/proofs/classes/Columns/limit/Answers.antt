use Rattle.std.proofs.Common.{◌∙◌}
use Rattle.partition.proofs.ClassCounts.{counted-limit}
use Rattle.partition.proofs.classes.Columns.limit.Goals as goal

pub returns : goal.returns
returns c =
    c.largest_count.ensures
    ∙ counted-limit _ _ _ c.put_counts.new.out c.args.self.column.partition.below
    c.put_counts.ensures
