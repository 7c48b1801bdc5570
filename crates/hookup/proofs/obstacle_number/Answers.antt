use Rattle.std.proofs.Common.{refl}
use Rattle.composite.specs.Answers.{obstacle_of}
use Rattle.hookup.specs.Numbers.{obstacle_number}
use Rattle.hookup.proofs.Numbered.{as_number}
use Rattle.hookup.proofs.obstacle_number.Goals as goal

pub returns-in-ObserversDiffer : goal.returns-in-ObserversDiffer
unfolding obstacle_number obstacle_of
returns-in-ObserversDiffer c = as_number obstacle_of obstacle_number c.in-ObserversDiffer.is refl

pub returns-in-Clash : goal.returns-in-Clash
unfolding obstacle_number obstacle_of
returns-in-Clash c = as_number obstacle_of obstacle_number c.in-Clash.is refl

pub returns-in-TooLarge : goal.returns-in-TooLarge
unfolding obstacle_number obstacle_of
returns-in-TooLarge c = as_number obstacle_of obstacle_number c.in-TooLarge.is refl
