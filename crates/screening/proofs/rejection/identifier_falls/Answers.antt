use Rattle.std.proofs.Common.{sym, le-ltb, ◌∙◌, arith}
use Rattle.screening.proofs.Rejections.{falls-first, falls-later}
use Rattle.screening.proofs.rejection.identifier_falls.Goals as goal

pub returns-then-i-gt0 : goal.returns-then-i-gt0
returns-then-i-gt0 c =
    falls-later _ _ _ _ (λ e. omega arith) c.identifier.ensures.value c.identifier-then-i-gt0.ensures.value

pub returns-else-i-gt0 : goal.returns-else-i-gt0
returns-else-i-gt0 c = le-ltb 0 _ (omega arith) ∙ sym (falls-first _ _ (omega arith))
