use Rattle.script.specs.Answers.{operation_of_call}
use Rattle.store.specs.Model.{clear, load, hookup}
use Rattle.store.specs.Demand.{step}
use Rattle.batch.specs.Script.{call_of}
use Rattle.batch.proofs.Calls.{one_call}
use Rattle.batch.proofs.perform.perform.Goals as goal

pub returns-in-Clear : goal.returns-in-Clear
unfolding operation_of_call call_of step
returns-in-Clear c =
    let a = c.args in
    one_call (operation_of_call a.call) clear a.shelf.now
    (rw c.in-Clear.is) (c.clear.ensures.result_value, c.clear.ensures.s_after)

pub returns-in-Load : goal.returns-in-Load
unfolding operation_of_call call_of step
returns-in-Load c =
    let a = c.args in
    one_call (operation_of_call a.call) (load _) a.shelf.now
    (rw c.in-Load.is) (c.load.ensures.result_value, c.load.ensures.s_after)

pub returns-in-Hookup : goal.returns-in-Hookup
unfolding operation_of_call call_of step
returns-in-Hookup c =
    let a = c.args in
    one_call (operation_of_call a.call) (hookup _ _) a.shelf.now
    (rw c.in-Hookup.is) (c.hookup.ensures.result_value, c.hookup.ensures.s_after)
