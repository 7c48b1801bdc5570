use Rattle.std.proofs.Common.{refl}
use Rattle.limits.specs.Pairs.{plain_part, states_lines}
use Rattle.limits.proofs.LineLaws.{last_text}
use Rattle.limits.proofs.states.Goals as goal

pub returns : goal.returns
unfolding plain_part states_lines
returns g c =
    last_text c.line-2.result _ _ _ _ _ c.in_ok-line.ensures
    (rw (c.put_part.ensures, c.put_part-2.ensures, c.put_part-3.ensures) refl) c.line-2.ensures
