use Rattle.std.proofs.Common.{◌∙◌}
use Rattle.script.specs.Answers.{operation_of_call}
use Rattle.store.specs.Model.{clear, load, hookup}
use Rattle.store.specs.Demand.{step}
use Rattle.batch.specs.Script.{call_of}
use Rattle.transcript.specs.Turn.{turn}
use Rattle.transcript.proofs.turn.called.Goals as goal

pub returns-in-Clear : goal.returns-in-Clear
unfolding operation_of_call call_of turn step
returns-in-Clear c =
    let is = c.in-Clear.is in
    let done = c.perform.ensures clear (rw is) in
    let line = c.line.ensures in
    simp (is, ← (c.from-a.ensures ∙ done.0)) record { value = line.value; out_after = line.out_after; shelf_after = done.1 }

pub returns-in-Load : goal.returns-in-Load
unfolding operation_of_call call_of turn step
returns-in-Load c =
    let is = c.in-Load.is in
    let done = c.perform.ensures (load c.in-Load.field-0.now) (rw is) in
    let line = c.line-in-Load.ensures in
    simp (is, ← (c.from-a.ensures ∙ done.0)) record { value = line.value; out_after = line.out_after; shelf_after = done.1 }

pub returns-in-Hookup : goal.returns-in-Hookup
unfolding operation_of_call call_of turn step
returns-in-Hookup c =
    let is = c.in-Hookup.is in
    let done = c.perform.ensures (hookup c.in-Hookup.field-0 c.in-Hookup.field-1) (rw is) in
    let line = c.line-in-Hookup.ensures in
    simp (is, ← (c.from-a.ensures ∙ done.0)) record { value = line.value; out_after = line.out_after; shelf_after = done.1 }
