use Rattle.std.proofs.Common.{refl}
use Rattle.composite.specs.Answers.{obstacle_of}
use Rattle.limits.specs.Pairs.{answer_line}
use Rattle.limits.proofs.LineLaws.{on_text}
use Rattle.limits.proofs.stopped.Goals as goal

pub returns-in-TooLarge : goal.returns-in-TooLarge
unfolding answer_line obstacle_of
returns-in-TooLarge g c = on_text c.end_line.result _ _ (rw c.in-TooLarge.is refl) c.end_line.ensures

pub returns-in-ObserversDiffer : goal.returns-in-ObserversDiffer
unfolding answer_line obstacle_of
returns-in-ObserversDiffer g c = on_text c.no_record.result _ _ (rw c.in-ObserversDiffer.is refl) c.no_record.ensures

pub returns-in-Clash : goal.returns-in-Clash
unfolding answer_line obstacle_of
returns-in-Clash g c = on_text c.no_record-in-Clash.result _ _ (rw c.in-Clash.is refl) c.no_record-in-Clash.ensures
