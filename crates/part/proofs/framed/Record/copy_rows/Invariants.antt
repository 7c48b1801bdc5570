use Rattle.words.specs.Arrays.{words_of}
use Rattle.words.proofs.Arrays.{Front}
use Rattle.part.specs.Record.{row}
use Rattle.part.proofs.framed.Record.copy_rows.Given as goal

abbrev pub invariant-loop-s : goal.invariant-loop-s
invariant-loop-s l = Front (words_of (row l.self.bytes.now l.i)) l.s l.row-items
