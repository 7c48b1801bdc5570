use Rattle.std.proofs.Common.{sym, le-ltb, ◌∙◌, arith}
use Rattle.screening.proofs.Rejections.{falls-first, falls-later}
use Rattle.screening.proofs.rejection.observer_falls.Goals as goal

pub returns-then-o-gt0 : goal.returns-then-o-gt0
returns-then-o-gt0 c =
    falls-later _ _ _ _ (λ e. omega arith) c.observer.ensures c.observer-then-o-gt0.ensures

pub returns-else-o-gt0 : goal.returns-else-o-gt0
returns-else-o-gt0 c = le-ltb 0 _ (omega arith) ∙ sym (falls-first _ _ (omega arith))
