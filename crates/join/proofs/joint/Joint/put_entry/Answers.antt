use Rattle.join.proofs.HeadEntries.{entry_laid}
use Rattle.join.proofs.joint.Joint.put_entry.Goals as goal

pub returns : goal.returns
returns c =
    rw c.put.ensures
    (entry_laid _ _ _ _ _ _ _ (c.sort_of-event.ensures.kind_value, c.sort_of-event.ensures.level_value))
