use Rattle.std.proofs.Common.{refl, ◌∙◌, arith}
use Rattle.script.specs.Answers.{operation_of}
use Rattle.store.proofs.Readings.{part-within}
use Rattle.transcript.specs.Turn.{turn}
use Rattle.transcript.proofs.turn.done.Goals as goal

pub part-requires-in-Part : goal.part-requires-in-Part
part-requires-in-Part c = rw c.part.ensures (omega (arith, part-within c.args.shelf.now c.in-Part.i))

pub returns-in-Call : goal.returns-in-Call
unfolding operation_of
returns-in-Call c = simp c.in-Call.is c.called.ensures

pub returns-in-Count : goal.returns-in-Count
unfolding turn operation_of
returns-in-Count c =
    let line = c.line.ensures in
    simp (c.in-Count.is, ← (c.from.ensures ∙ c.count.ensures))
    record { value = line.value; out_after = line.out_after; shelf_after = refl }

pub returns-in-Part : goal.returns-in-Part
unfolding turn operation_of
returns-in-Part c =
    let line = c.part-in-Part.ensures in
    simp (c.in-Part.is, ← c.part.ensures)
    record { value = line.value; out_after = line.out_after; shelf_after = refl }
