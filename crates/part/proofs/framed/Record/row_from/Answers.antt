use Rattle.part.proofs.Fields.{row_from}
use Rattle.part.proofs.framed.Record.row_from.Goals as goal

pub number-requires-clause-room : goal.number-requires-clause-room
number-requires-clause-room c = (row_from _ _ _ _ c.args.self.framed c.requires.i_bound c.requires.s_bound c.requires.at_value).1
