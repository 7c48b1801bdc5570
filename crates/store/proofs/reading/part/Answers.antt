use Rattle.std.proofs.Common.{arith}
use Rattle.store.specs.Walk.{records}
use Rattle.store.proofs.Readings.{part_none}
use Rattle.store.proofs.Told.{endless}
use Rattle.store.proofs.reading.part.Goals as goal
use Rattle.store.proofs.reading.part.Goals.{in_default-via-in-Ok+else-i-end, in_default-via-in_default}

pub returns-in_default : goal.returns-in_default
unfolding records
returns-in_default c =
    elim c.in_default.branch [
      | in_default-via-in-Ok+else-i-end w ↦ part_none _ _ (omega (arith, w.in-Ok.ensures.many))
      | in_default-via-in_default w ↦
          part_none _ _ (rw (endless _ c.walk.result w.in_default.not-Ok c.walk.ensures, records) (omega arith))
    ]
