use Rattle.std.proofs.Common.{refl}
use Rattle.composite.specs.Answers.{side_of}
use Rattle.hookup.specs.Numbers.{side_number}
use Rattle.hookup.proofs.Numbered.{as_number}
use Rattle.hookup.proofs.side_number.Goals as goal

pub returns-in-First-clause-value : goal.returns-in-First-clause-value
unfolding side_number side_of
returns-in-First-clause-value c =
    as_number side_of side_number c.in-First.is refl

pub returns-in-Second-clause-value : goal.returns-in-Second-clause-value
unfolding side_number side_of
returns-in-Second-clause-value c =
    as_number side_of side_number c.in-Second.is refl
