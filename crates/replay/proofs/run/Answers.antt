use Rattle.std.proofs.Common.{arith}
use Rattle.replay.proofs.ScriptLaws.{too_long, too_short, too_large, replayed, on_text}
use Rattle.replay.proofs.run.Goals as goal

pub returns-then-script-gt-MOST : goal.returns-then-script-gt-MOST
returns-then-script-gt-MOST g c =
    on_text c.write_all.result _ _ (too_long c.args.script.now (omega arith)) c.write_all.ensures.bytes

pub returns-then-script-lt4 : goal.returns-then-script-lt4
returns-then-script-lt4 g c =
    let written = c.write_all-then-script-lt4 in
    on_text written.result _ _ (too_short c.args.script.now (omega arith) (omega arith)) written.ensures.bytes

pub returns-then-capacity-gt-MOST : goal.returns-then-capacity-gt-MOST
returns-then-capacity-gt-MOST g c =
    let written = c.write_all-then-capacity-gt-MOST in
    let n = c.number-capacity in
    on_text written.result _ _
    (too_large c.args.script.now (omega arith) n.result n.ensures.value (omega arith) (omega arith))
    written.ensures.bytes

pub returns : goal.returns
returns g c =
    let n = c.number-capacity in
    on_text c.replay_on_new.result _ _
    (replayed c.args.script.now (omega arith) n.result n.ensures.value (omega arith) (omega arith))
    c.replay_on_new.ensures
