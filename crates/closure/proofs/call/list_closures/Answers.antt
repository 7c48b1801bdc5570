use Rattle.std.proofs.Common.{◌*◌, ◌≤◌, ◌≡◌, refl, sym, mul-le-mul, arith, length}
use mathlib.Core.Option.{none}
use Rattle.std.proofs.lemmas.Result.{err_from_is_err_and}
use Rattle.screening.specs.Rejections.{rejection}
use Rattle.screening.specs.Answers.{rejection_of}
use Rattle.words.specs.Laid.{laid_unless}
use Rattle.closure.specs.Closures.{pieces}
use Rattle.closure.specs.Answers.{refusal_of}
use Rattle.closure.proofs.PieceBytes.{length-pieces, few-observers}
use Rattle.closure.proofs.Refusals.{refused, roomless, roomy}
use Rattle.closure.proofs.call.list_closures.Goals as goal
use Rattle.closure.proofs.call.list_closures.Goals.{After-block_size, In_ok-accepted}

-- no rejection applies
none_applies : (c : In_ok-accepted) → rejection c.args.bytes.now ≡ none
unfolding rejection_of
none_applies c = sym c.in_ok-accepted.ensures.rejection

-- how many bytes the blocks take
size : (c : After-block_size)
    → length (pieces c.args.bytes.now)
    ≡ c.observers.result * c.block_size.result
size c =
    let e = c.in_ok-accepted.ensures.bytes in
    rw (← e) (rw c.observers.ensures (length-pieces _ c.in_ok-accepted.accepted.accepted _ c.block_size.ensures.by_index))

pub returns-in_err-accepted-clause-result_value : goal.returns-in_err-accepted-clause-result_value
unfolding refusal_of rejection_of
returns-in_err-accepted-clause-result_value c =
    let p = err_from_is_err_and c.from_residual.result c.from_residual.ensures.1 in
    rw (p.1, p.2) (sym (refused _ _ _ (sym c.in_err-accepted.ensures.rejection)))

pub returns-in_err-accepted-clause-out_after : goal.returns-in_err-accepted-clause-out_after
unfolding refusal_of laid_unless
returns-in_err-accepted-clause-out_after c =
    let p = err_from_is_err_and c.from_residual.result c.from_residual.ensures.1 in
    rw (p.1, p.2) refl

pub overflow_mul-observers : goal.overflow_mul-observers
overflow_mul-observers c =
    let few = few-observers _ c.in_ok-accepted.accepted.accepted in
    let read : c.observers.result ≤ 255 = rw c.observers.ensures few in
    omega (arith, mul-le-mul read c.block_size.ensures.upper_bound)

pub returns-then-out-observers-clause-result_value : goal.returns-then-out-observers-clause-result_value
unfolding refusal_of laid_unless
returns-then-out-observers-clause-result_value c =
    sym (roomless _ _ (none_applies (goal.at.returns-then-out-observers-clause-result_value c).In_ok-accepted) (omega (arith, size (goal.at.returns-then-out-observers-clause-result_value c).After-block_size, c.if-out-observers.true)))

pub returns-then-out-observers-clause-out_after : goal.returns-then-out-observers-clause-out_after
unfolding refusal_of laid_unless
returns-then-out-observers-clause-out_after c =
    refl

pub put_pieces-requires : goal.put_pieces-requires
put_pieces-requires c =
    rw c.in_ok-accepted.ensures.bytes (omega (arith, size (goal.at.put_pieces-requires c).After-block_size, c.if-out-observers.false))

pub returns-clause-result_value : goal.returns-clause-result_value
unfolding refusal_of laid_unless
returns-clause-result_value c =
    sym (roomy _ _ (none_applies (goal.at.returns-clause-result_value c).In_ok-accepted) (omega (arith, size (goal.at.returns-clause-result_value c).After-block_size, c.if-out-observers.false)))

pub returns-clause-out_after : goal.returns-clause-out_after
unfolding refusal_of laid_unless
returns-clause-out_after c =
    rw c.in_ok-accepted.ensures.bytes at c.put_pieces.ensures
