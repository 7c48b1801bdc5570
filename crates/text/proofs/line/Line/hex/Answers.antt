use Rattle.std.proofs.Common.{refl, sym, ◌∙◌, arith, take, length-take-le}
use Rattle.words.proofs.LaidLaws.{then, over_nothing}
use Rattle.text.specs.Hex.{hex}
use Rattle.text.proofs.HexLaws.{length-hex, hex_more}
use Rattle.text.proofs.line.Line.hex.Goals as goal

pub loop-b-init : goal.loop-b-init
unfolding hex
loop-b-init c = record {
  same_reference = refl;
  laid = record { text = sym (over_nothing c.args.self.now.out.now c.args.self.now.at); behind = omega arith };
  room = refl;
}

pub word-requires : goal.word-requires
word-requires c =
    let i = c.loop-b.b-index in
    let size = length-hex (take i c.args.bytes.now) in
    let taken = length-take-le i c.args.bytes.now (omega arith) in
    omega (arith, c.loop-b.invariant.laid.behind)

pub loop-b-preserved : goal.loop-b-preserved
loop-b-preserved c =
    let more = hex_more c.args.bytes.now c.loop-b.b-index (omega arith) in
    let two = rw (c.hex_digit.ensures, c.hex_digit-in-loop-b.ensures) at c.word.ensures.laid in
    record {
      same_reference = c.word.ensures.same_reference ∙ c.loop-b.invariant.same_reference;
      laid = rw more (then c.loop-b.invariant.laid two);
      room = c.word.ensures.room ∙ c.loop-b.invariant.room;
    }
