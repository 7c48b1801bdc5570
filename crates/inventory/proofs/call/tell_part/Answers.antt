use Rattle.std.proofs.Common.{refl, ◌∙◌, arith}
use Rattle.words.specs.Laid.{laid_unless}
use Rattle.inventory.proofs.Tellings.{endless_part, absent, placed, turned_away, roomless, roomy, two_laid, told-no_end}
use Rattle.inventory.proofs.call.tell_part.Goals as goal

pub returns-in_err-end-clause-result_value : goal.returns-in_err-end-clause-result_value
returns-in_err-end-clause-result_value c =
    told-no_end c.from_residual.result c.from_residual.ensures.1 ∙ turned_away _ (endless_part _ _ c.in_err-end.ensures)

pub returns-in_err-end-clause-out_after : goal.returns-in_err-end-clause-out_after
unfolding laid_unless
returns-in_err-end-clause-out_after c = rw (told-no_end c.from_residual.result c.from_residual.ensures.1, laid_unless) refl

pub returns-then-end-i-clause-result_value : goal.returns-then-end-i-clause-result_value
unfolding laid_unless
returns-then-end-i-clause-result_value c =
    turned_away _ (absent _ _ _ c.in_ok-end.ensures _ (omega arith))

pub returns-then-end-i-clause-out_after : goal.returns-then-end-i-clause-out_after
unfolding laid_unless
returns-then-end-i-clause-out_after c =
    refl

pub returns-then-out-clause-result_value : goal.returns-then-out-clause-result_value
unfolding laid_unless
returns-then-out-clause-result_value c =
    roomless _ (placed _ _ _ c.in_ok-end.ensures _ (omega arith)) (omega arith)

pub returns-then-out-clause-out_after : goal.returns-then-out-clause-out_after
unfolding laid_unless
returns-then-out-clause-out_after c =
    refl

pub returns-clause-result_value : goal.returns-clause-result_value
unfolding laid_unless
returns-clause-result_value c =
    let told = placed _ _ _ c.in_ok-end.ensures c.args.i (omega arith) in
    let spans = c.extent-standing.ensures in
    roomy _ told (omega arith)

pub returns-clause-out_after : goal.returns-clause-out_after
unfolding laid_unless
returns-clause-out_after c =
    let told = placed _ _ _ c.in_ok-end.ensures c.args.i (omega arith) in
    let spans = c.extent-standing.ensures in
    two_laid _ told c.put.ensures spans.starts c.put-2.ensures spans.long
