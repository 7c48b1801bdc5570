use Rattle.std.proofs.Common.{arith}
use Rattle.std.proofs.lemmas.Grind.{common_steps}
use Rattle.script.specs.Answers.{read_of, item_of}
use Rattle.script.proofs.Operations.{operations-read}
use Rattle.script.proofs.sequence.OperationsIterator.next.Goals as goal

pub returns-in-Ok-Some-clause-steps : goal.returns-in-Ok-Some-clause-steps
unfolding read_of item_of
returns-in-Ok-Some-clause-steps c =
    let is = rw c.in-Ok-Some.field-0-is at c.in-Ok-Some.ensures.value in
    operations-read _ c.in-Ok-Some.operation c.size.result is c.size.ensures

pub returns-in-Ok-Some-clause-goes : goal.returns-in-Ok-Some-clause-goes
unfolding read_of item_of
returns-in-Ok-Some-clause-goes c =
    let is = rw c.in-Ok-Some.field-0-is at c.in-Ok-Some.ensures.value in
    let first = operations-read _ c.in-Ok-Some.operation c.size.result is c.size.ensures in
    grind (arith, common_steps, first)
