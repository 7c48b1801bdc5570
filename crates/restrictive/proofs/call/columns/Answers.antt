use Rattle.std.proofs.Common.{sym, ◌∙◌}
use Rattle.restrictive.proofs.Verdicts.{ready}
use Rattle.restrictive.proofs.call.columns.Goals as goal

pub of-requires-clause-partition : goal.of-requires-clause-partition
of-requires-clause-partition c = rw c.class_column.ensures (ready _ _ c.args.accepted.accepted c.requires).partition

pub of-requires-clause-fine_partition : goal.of-requires-clause-fine_partition
of-requires-clause-fine_partition c = rw c.fine_column.ensures (ready _ _ c.args.accepted.accepted c.requires).fine_partition

pub of-requires-clause-fine_len : goal.of-requires-clause-fine_len
of-requires-clause-fine_len c =
    let sound = ready _ _ c.args.accepted.accepted c.requires in
    rw (c.fine_column.ensures, c.class_column.ensures) (sound.fine_sized ∙ sym sound.sized)
