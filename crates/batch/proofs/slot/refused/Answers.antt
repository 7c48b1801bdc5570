use Rattle.restrictive.specs.Answers.{violation_of}
use Rattle.store.proofs.Told.{plainly_refused}
use Rattle.batch.specs.Slots.{numbers}
use Rattle.batch.proofs.slot.refused.Goals as goal

pub returns-in-Breaks : goal.returns-in-Breaks
unfolding numbers violation_of
returns-in-Breaks c = rw (c.in-Breaks.is, c.number.ensures)

pub returns-in-Clash : goal.returns-in-Clash
unfolding numbers
returns-in-Clash c = rw c.in-Clash.is

pub returns-in_default : goal.returns-in_default
unfolding numbers
returns-in_default c = rw (plainly_refused _ c.in_default.not-Breaks c.in_default.not-Clash, c.number-in_default.ensures)
