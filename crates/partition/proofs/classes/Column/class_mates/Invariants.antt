use Rattle.std.proofs.Common.{◌&&◌, ltb, length, replicate}
use Rattle.words.specs.Arrays.{Filled, sets_of}
use Rattle.words.specs.LittleEndian.{byte}
use Rattle.partition.specs.Classes.{same_class}
use Rattle.partition.proofs.classes.Column.class_mates.Given as goal

abbrev pub invariant-loop-s : goal.invariant-loop-s
invariant-loop-s l =
    Filled (sets_of (λ u t. ltb t (length l.self.classes.now) && same_class (byte l.self.classes.now) t u)) l.s
    (replicate 64 0) l.sets
