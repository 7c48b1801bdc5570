use Rattle.std.proofs.Common.{sym, ◌∙◌, le-ltb, rules, tests, arith}
use Rattle.screening.specs.Rejections.{stray_bit, row_strays}
use Rattle.screening.proofs.Strays.{no_stray}
use Rattle.screening.proofs.Tests.{any_in_range}
use Rattle.screening.proofs.rejection.stray_bit.Goals as goal

pub returns-then-states-lt-STATES : goal.returns-then-states-lt-STATES
unfolding stray_bit
returns-then-states-lt-STATES c = any_in_range (row_strays c.args.b.bytes.now) c.events.ensures.value _ _ c.any.result c.any.ensures.ran (λ x b q k. search (rules, tests))

pub returns-else-states-lt-STATES : goal.returns-else-states-lt-STATES
returns-else-states-lt-STATES c =
    le-ltb c.states.result 64 (omega arith) ∙ sym (no_stray _ c.args.b.octets (let n = c.states.ensures.value in omega arith))
