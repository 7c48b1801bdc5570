use Rattle.std.proofs.Common.{refl, arith}
use Rattle.part.specs.Record.{classes_below}
use Rattle.part.proofs.Fields.{classes_next}
use Rattle.part.proofs.field.Part.classes.Goals as goal

pub loop-c-init : goal.loop-c-init
unfolding classes_below
loop-c-init c = (refl, omega arith)

pub loop-c-preserved : goal.loop-c-preserved
loop-c-preserved c =
    let next = classes_next c.args.column.now c.loop-c.c-index in
    (omega arith, omega arith)
