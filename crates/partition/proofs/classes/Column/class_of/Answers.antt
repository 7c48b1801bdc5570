use Rattle.std.proofs.Common.{arith}
use Rattle.words.proofs.Sets.{bit-single}
use Rattle.words.proofs.Arrays.{filled_more}
use Rattle.partition.proofs.classes.Column.class_of.Goals as goal

pub loop-s-preserved : goal.loop-s-preserved
loop-s-preserved c =
    filled_more _ (omega arith) c.loop-s.invariant (λ t. rw (c.single.ensures, ← c.from.ensures) (bit-single _ t))
