-- The smallest records of each kind, computed: one state with no event, and one state with one low input.
use Rattle.std.specs.Prelude.{◌≡◌, refl}
use Rattle.words.specs.LittleEndian.{digits}
use Rattle.words.specs.Laid.{over}
use Rattle.part.specs.Samples.{Q, Z}
use Rattle.limits.specs.Pairs.{part_over, inputs_over, plain_part, inputs_part}

pub one_state : plain_part 1 ≡ Z
unfolding plain_part part_over over digits
one_state = refl

pub one_input : inputs_part 2 1 ≡ Q
unfolding inputs_part inputs_over part_over over digits
one_input = refl
