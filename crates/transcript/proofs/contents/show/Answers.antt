use Rattle.std.proofs.Common.{◌<◌, ◌≡◌, sym, ◌∙◌, arith, length}
use borrow.Author.Tests.{eqb-true, eqb-false}
use Rattle.words.proofs.LaidLaws.{then, over_nothing}
use Rattle.transcript.proofs.Lines.{shown-none, shown-some}
use Rattle.transcript.proofs.contents.show.Goals as goal

pub returns-then-is_empty-clause-laid : goal.returns-then-is_empty-clause-laid
returns-then-is_empty-clause-laid c =
    let none : length c.args.bytes.now ≡ 0 = eqb-true _ _ (sym c.is_empty.ensures ∙ c.if-is_empty.true) in
    rw (shown-none c.args.bytes.now none)
    record { text = sym (over_nothing c.args.line.now.out.now c.args.line.now.at); behind = omega arith }

pub returns-clause-laid : goal.returns-clause-laid
returns-clause-laid c =
    let some = eqb-false (length c.args.bytes.now) 0 (sym c.is_empty.ensures ∙ c.if-is_empty.false) in
    let more : 0 < length c.args.bytes.now = omega arith in
    rw (← shown-some c.args.bytes.now more) (then c.word.ensures.laid c.hex.ensures.laid)
