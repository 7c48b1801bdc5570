use Rattle.words.specs.LittleEndian.{byte}
use Rattle.partition.proofs.Sorted.{Sorted}
use Rattle.partition.proofs.classes.Column.put_states.Given as goal

abbrev pub invariant-loop-s : goal.invariant-loop-s
invariant-loop-s l = Sorted 64 (byte l.self.classes.now) l.s l.out
