use Rattle.std.proofs.Common.{sym, arith}
use Rattle.words.proofs.Arrays.{front_start, front_more, filled_front}
use Rattle.part.proofs.framed.Record.copy_rows.Goals as goal

pub loop-s-init : goal.loop-s-init
loop-s-init c = front_start _

pub loop-s-preserved : goal.loop-s-preserved
loop-s-preserved c = front_more _ (omega arith) c.loop-s.invariant c.row_from.ensures

pub returns : goal.returns
returns c =
    rw (sym c.states.ensures.value)
    (filled_front c.told-out c.states.ensures.bounds.1 c.loop-s.auto.row-items (omega arith) c.loop-s.invariant)
