use Rattle.std.proofs.Common.{arith}
use Rattle.words.proofs.Arrays.{filled_more}
use Rattle.partition.proofs.ClassRows.{class-mates}
use Rattle.partition.proofs.classes.Column.class_mates.Goals as goal

pub loop-s-preserved : goal.loop-s-preserved
loop-s-preserved c =
    filled_more _ (omega arith) c.loop-s.invariant
    (class-mates _ _ c.put_states.new.out c.put_states.ensures _ _ c.from-c.ensures
    (rw c.from-c.ensures (c.args.self.partition.below _ c.loop-s-test.true)))
