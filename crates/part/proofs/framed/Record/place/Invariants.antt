use Rattle.part.proofs.Places.{Missed}
use Rattle.part.proofs.framed.Record.place.Given as goal

abbrev pub invariant-loop-i : goal.invariant-loop-i
invariant-loop-i l = Missed l.self.bytes.now l.e l.i
