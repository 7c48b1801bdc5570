use Rattle.std.proofs.Common.{arith}
use Rattle.closure.proofs.PieceBytes.{length-block}
use Rattle.closure.proofs.writer.block_size.Goals as goal

pub returns-clause-by_index : goal.returns-clause-by_index
returns-clause-by_index c =
    let a = c.args.accepted.accepted in
    let n = c.states.ensures.value in
    λ o. omega (arith, length-block _ a o)

pub returns-clause-upper_bound : goal.returns-clause-upper_bound
returns-clause-upper_bound c =
    let a = c.args.accepted.accepted in
    let n = c.states.ensures.value in
    omega (arith, c.args.accepted.record.framed.few.most_states)
