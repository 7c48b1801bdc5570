use Rattle.std.proofs.Common.{rules, ap, length, arith}
use Rattle.words.proofs.LaidLaws.{then, laid_start}
use Rattle.transcript.specs.Lines.{part_line}
use Rattle.transcript.proofs.Lines.{length-shown}
use Rattle.transcript.proofs.contents.part.Goals as goal

pub word-requires : goal.word-requires
word-requires c =
    let size = length-shown c.args.bytes.now in
    omega (
      arith,
      c.show.ensures.laid.behind,
      c.show.ensures.room,
      c.labelled.ensures.upper_bound,
      c.labelled.ensures.room,
      c.over-line.ensures.at,
      ap length c.over-line.ensures.out,
    )

pub returns : goal.returns
unfolding part_line
returns c =
    let start = rw (c.over-line.ensures.out, c.over-line.ensures.at) at c.labelled.ensures.laid in
    let size = length-shown c.args.bytes.now in
    let line = laid_start (then (then start c.show.ensures.laid) c.word.ensures.laid) (omega arith) in
    let after = line.1 in
    record { value = line.0; out_after = search (rules, after) }
