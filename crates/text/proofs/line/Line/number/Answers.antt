use Rattle.std.proofs.Common.{◌≡◌, ◌∙◌, arith}
use Rattle.text.specs.Decimal.{decimal}
use Rattle.text.proofs.Decimals.{decimal_of}
use Rattle.text.proofs.line.Line.number.Goals as goal

pub returns-clause-laid : goal.returns-clause-laid
returns-clause-laid c =
    let digits : c.as_bytes-digits.result.now ≡ decimal c.args.n =
    c.as_bytes-digits.ensures.value ∙ c.format.ensures.text ∙ decimal_of _ c.args.n (omega arith) (omega arith) in
    rw digits at c.word.ensures.laid
