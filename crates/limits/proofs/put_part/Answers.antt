use Rattle.std.proofs.Common.{refl}
use Rattle.limits.specs.Pairs.{part_over}
use Rattle.limits.proofs.put_part.Goals as goal

pub returns : goal.returns
unfolding part_over
returns c = rw (c.put-2.ensures, c.put.ensures) refl
