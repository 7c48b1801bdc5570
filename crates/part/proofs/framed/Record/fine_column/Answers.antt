use Rattle.std.proofs.Common.{◌≡◌, arith}
use Rattle.part.specs.Record.{form_of}
use Rattle.part.proofs.Fields.{own_fine_column}
use Rattle.part.proofs.framed.Record.fine_column.Goals as goal

pub overflow_add-form : goal.overflow_add-form
overflow_add-form c =
    let form : c.form.result.finer ≡ (form_of c.args.self.bytes.now).finer = let e = c.form.ensures.value in cc in
    omega (arith, c.args.self.framed.few.most_columns, own_fine_column _ _ c.requires)

pub column-requires : goal.column-requires
column-requires c =
    rw c.form.ensures.value (own_fine_column _ _ c.requires)
