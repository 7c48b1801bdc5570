use Rattle.words.specs.Sets.{gathered}
use Rattle.words.specs.Arrays.{Filled, sets_of}
use Rattle.part.specs.Record.{row}
use Rattle.relations.proofs.event.look_up.Given as goal

abbrev pub invariant-loop-s : goal.invariant-loop-s
invariant-loop-s l =
    Filled (sets_of (λ u. gathered 64 (row l.b.bytes.now l.i u) l.table)) l.s l.initial.out l.out
