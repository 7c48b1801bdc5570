use Rattle.std.proofs.Common.{refl}
use Rattle.limits.specs.Pairs.{inputs_part, entries_lines}
use Rattle.limits.proofs.LineLaws.{last_text}
use Rattle.limits.proofs.entries.Goals as goal

pub returns : goal.returns
unfolding inputs_part entries_lines
returns g c =
    last_text c.line-2.result _ _ _ _ _ c.in_ok-line.ensures
    (rw (c.put_inputs.ensures, c.put_inputs-2.ensures, c.put_inputs-3.ensures) refl) c.line-2.ensures
