use Rattle.screening.proofs.Strays.{United}
use Rattle.screening.proofs.rejection.row_strays.Given as goal

abbrev pub invariant-loop-s : goal.invariant-loop-s
invariant-loop-s l = United l.b.bytes.now l.i l.s l.found
