use Rattle.std.proofs.Common.{eqb, replicate}
use Rattle.words.specs.Arrays.{Filled, sets_of}
use Rattle.words.specs.LittleEndian.{byte}
use Rattle.partition.proofs.classes.Column.class_of.Given as goal

abbrev pub invariant-loop-s : goal.invariant-loop-s
invariant-loop-s l = Filled (sets_of (λ u. eqb (byte l.self.classes.now u))) l.s (replicate 64 0) l.sets
