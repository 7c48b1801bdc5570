use Rattle.std.proofs.Common.{get_or}
use Rattle.words.specs.Sets.{gathered}
use Rattle.words.specs.Arrays.{Filled, sets_of}
use Rattle.words.specs.LittleEndian.{byte}
use Rattle.partition.proofs.classes.Columns.put_offered_states.Given as goal

abbrev pub invariant-loop-s : goal.invariant-loop-s
invariant-loop-s l =
    Filled (sets_of (λ u. gathered 64 (get_or l.common (byte l.self.fine.classes.now u) 0) l.states)) l.s l.initial.out l.out
