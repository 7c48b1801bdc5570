use Rattle.words.proofs.LaidLaws.{then}
use Rattle.text.proofs.line.Line.labelled.Goals as goal

pub returns-clause-laid : goal.returns-clause-laid
returns-clause-laid c =
    then c.word.ensures.laid c.number.ensures.laid
