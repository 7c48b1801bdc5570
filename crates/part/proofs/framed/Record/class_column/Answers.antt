use Rattle.part.proofs.Fields.{own_column}
use Rattle.part.proofs.framed.Record.class_column.Goals as goal

pub column-requires : goal.column-requires
column-requires c = own_column _ _ c.requires
