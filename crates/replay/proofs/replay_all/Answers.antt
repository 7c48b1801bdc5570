use Rattle.std.proofs.Common.{arith}
use Rattle.replay.specs.declared.TheConstants.{ROOM}
use Rattle.replay.proofs.ScriptLaws.{on_input}
use Rattle.replay.proofs.replay_all.Goals as goal

pub returns-clause-written : goal.returns-clause-written
returns-clause-written g c = on_input c.replay_first.result ROOM _ _ _ (omega arith) c.replay_first.ensures.written
