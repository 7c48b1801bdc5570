use Rattle.std.proofs.Common.{refl, ap, ◌∙◌, arith}
use Rattle.words.specs.Laid.{laid_unless}
use Rattle.inventory.proofs.Tellings.{endless, counted, turned_away, roomless, roomy, one_laid, told-no_end}
use Rattle.inventory.proofs.call.tell_count.Goals as goal

pub returns-in_err-end-clause-result_value : goal.returns-in_err-end-clause-result_value
returns-in_err-end-clause-result_value c =
    told-no_end c.from_residual.result c.from_residual.ensures.1 ∙ turned_away _ (endless _ c.in_err-end.ensures)

pub returns-in_err-end-clause-out_after : goal.returns-in_err-end-clause-out_after
unfolding laid_unless
returns-in_err-end-clause-out_after c = rw (told-no_end c.from_residual.result c.from_residual.ensures.1, laid_unless) refl

pub returns-then-out-lt-NUMBER-clause-result_value : goal.returns-then-out-lt-NUMBER-clause-result_value
returns-then-out-lt-NUMBER-clause-result_value c = roomless _ (counted _ _ _ c.in_ok-end.ensures) (omega arith)

pub returns-then-out-lt-NUMBER-clause-out_after : goal.returns-then-out-lt-NUMBER-clause-out_after
unfolding laid_unless
returns-then-out-lt-NUMBER-clause-out_after c = refl

pub returns-clause-result_value : goal.returns-clause-result_value
returns-clause-result_value c = roomy _ (counted _ _ _ c.in_ok-end.ensures) (omega arith)

pub returns-clause-out_after : goal.returns-clause-out_after
unfolding laid_unless
returns-clause-out_after c = c.put.ensures ∙ one_laid _ (counted _ _ _ c.in_ok-end.ensures)
