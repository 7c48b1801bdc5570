use Rattle.std.proofs.Common.{arith}
use Rattle.replay.proofs.ScriptLaws.{new_shelf, on_text}
use Rattle.replay.proofs.replay_on_new.Goals as goal

pub returns : goal.returns
returns g c =
    on_text c.replay.result _ _ (new_shelf c.args.capacity g.row.N c.args.script.now (omega arith))
    c.replay.ensures
