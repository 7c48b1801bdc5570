use Rattle.std.proofs.Common.{arith}
use Rattle.words.proofs.Arrays.{filled_end, filled_as}
use Rattle.partition.proofs.ClassRows.{offered_states_at}
use Rattle.partition.proofs.classes.Columns.put_offered_states.Goals as goal

pub returns : goal.returns
returns c =
    filled_as
    (offered_states_at _ _ c.put_states.new.out c.put_states.ensures _ _ c.put_offered_classes.new.out c.args.self.column.partition.below
    (rw (← c.args.self.same_length) c.args.self.fine.partition.below) (rw (← c.args.self.same_length) c.put_offered_classes.ensures))
    (filled_end (omega (arith, c.args.self.same_length)) c.loop-s.invariant)
