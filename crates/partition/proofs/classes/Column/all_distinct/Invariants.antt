use Rattle.words.specs.LittleEndian.{byte}
use Rattle.partition.proofs.ClassSeen.{Apart}
use Rattle.partition.proofs.classes.Column.all_distinct.Given as goal

abbrev pub invariant-loop-class : goal.invariant-loop-class
invariant-loop-class l = Apart (byte l.self.classes.now) l.class-index l.seen
