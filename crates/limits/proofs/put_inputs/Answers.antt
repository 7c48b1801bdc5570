use Rattle.std.proofs.Common.{length-set}
use Rattle.limits.specs.Pairs.{part_over, inputs_over}
use Rattle.limits.proofs.LineLaws.{input_turn}
use Rattle.limits.proofs.put_inputs.Goals as goal

pub loop-i-init : goal.loop-i-init
unfolding inputs_over
loop-i-init c = record { size = c.put_part.auto.out; made = c.put_part.ensures }

pub loop-i-preserved : goal.loop-i-preserved
loop-i-preserved c =
    let l = c.loop-i in
    record {
      size = simp length-set l.invariant.size;
      made = input_turn (part_over c.args.out.now 1 c.args.m) l.out c.args.first c.args.m l.i l.invariant.made;
    }
