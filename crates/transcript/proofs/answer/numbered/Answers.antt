use Rattle.std.proofs.Common.{rules, arith}
use Rattle.words.proofs.LaidLaws.{then, laid_start}
use Rattle.transcript.proofs.answer.numbered.Goals as goal

pub returns : goal.returns
returns c =
    let start = rw (c.over-line.ensures.out, c.over-line.ensures.at) at c.labelled.ensures.laid in
    let line = laid_start (then start c.word.ensures.laid) (omega arith) in
    let after = line.1 in
    record { value = line.0; out_after = search (rules, after) }
