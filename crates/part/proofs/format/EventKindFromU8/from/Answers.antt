use Rattle.std.proofs.Common.{refl, sym, arith}
use Rattle.part.specs.Events.{kind_of}
use Rattle.part.proofs.KindBytes.{kind-internal}
use Rattle.part.proofs.format.EventKindFromU8.from.Goals as goal

pub returns-in-0 : goal.returns-in-0
unfolding kind_of
returns-in-0 c = rw c.in-0.is refl

pub returns-in-1 : goal.returns-in-1
unfolding kind_of
returns-in-1 c = rw c.in-1.is refl

pub returns-in_default : goal.returns-in_default
returns-in_default c = sym (kind-internal _ (λ e. omega (arith, c.in_default)) (λ e. omega (arith, c.in_default)))
