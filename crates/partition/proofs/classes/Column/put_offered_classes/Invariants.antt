use Rattle.words.specs.LittleEndian.{byte}
use Rattle.partition.proofs.ClassRows.{Shared}
use Rattle.partition.proofs.classes.Column.put_offered_classes.Given as goal

abbrev pub invariant-loop-u : goal.invariant-loop-u
invariant-loop-u l = Shared (byte l.self.classes.now) l.offers l.u l.out
