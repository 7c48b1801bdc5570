use Rattle.std.proofs.Common.{rules, ap, length, arith}
use Rattle.words.proofs.LaidLaws.{then, laid_start}
use Rattle.text.proofs.HexLaws.{length-hex}
use Rattle.transcript.specs.Lines.{shelf_line}
use Rattle.transcript.proofs.contents.shelf.Goals as goal

pub word-requires-2 : goal.word-requires-2
word-requires-2 c =
    let size = length-hex c.args.bytes.now in
    omega (
      arith,
      c.hex.ensures.laid.behind,
      c.hex.ensures.room,
      c.word.ensures.laid.behind,
      c.word.ensures.room,
      c.over-line.ensures.at,
      ap length c.over-line.ensures.out,
    )

pub returns : goal.returns
unfolding shelf_line
returns c =
    let start = rw (c.over-line.ensures.out, c.over-line.ensures.at) at c.word.ensures.laid in
    let size = length-hex c.args.bytes.now in
    let line = laid_start (then (then start c.hex.ensures.laid) c.word-2.ensures.laid) (omega arith) in
    let after = line.1 in
    record { value = line.0; out_after = search (rules, after) }
