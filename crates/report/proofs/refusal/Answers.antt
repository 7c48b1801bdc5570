use Rattle.std.proofs.Common.{arith}
use Rattle.words.proofs.LaidLaws.{laid_start}
use Rattle.report.proofs.Laying.{laid_refusal}
use Rattle.report.proofs.refusal.Goals as goal

pub returns : goal.returns
returns c =
    let start = rw (c.over-line.ensures.out, c.over-line.ensures.at, c.number.ensures.value) at c.labelled.ensures.laid in
    let line = laid_start (laid_refusal _ start c.word.ensures.laid) (omega arith) in
    record { value = line.0; out_after = line.1 }
