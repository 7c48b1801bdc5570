use Rattle.words.specs.LittleEndian.{byte}
use Rattle.partition.proofs.ClassSeen.{Seen, Firsts}
use Rattle.partition.proofs.classes.Column.classwise_equal.Given as goal

abbrev pub invariant-loop-s : goal.invariant-loop-s
invariant-loop-s l = Seen (byte l.self.classes.now) l.s l.seen × Firsts (byte l.self.classes.now) l.words l.s l.first
