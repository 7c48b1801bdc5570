use Rattle.std.proofs.Common.{length}
use Rattle.words.specs.LittleEndian.{byte}
use Rattle.partition.proofs.ClassSeen.{Seen}
use Rattle.partition.proofs.ClassCounts.{Counted}
use Rattle.partition.proofs.classes.Columns.put_counts.Given as goal

abbrev pub invariant-loop-class : goal.invariant-loop-class
invariant-loop-class l =
    let s = length l.yielded in
    Seen (byte l.self.fine.classes.now) s l.seen × Counted (byte l.self.column.classes.now) (byte l.self.fine.classes.now) s l.out
