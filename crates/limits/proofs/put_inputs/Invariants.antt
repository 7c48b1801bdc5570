use Rattle.std.proofs.Common.{◌≡◌, length}
use Rattle.limits.specs.Pairs.{part_over, inputs_over}
use Rattle.limits.proofs.put_inputs.Given as goal

abbrev pub invariant-loop-i : goal.invariant-loop-i
invariant-loop-i l = record {
  size : length l.out ≡ length l.fn.out;
  made : l.out ≡ inputs_over (part_over l.fn.out 1 l.m) l.first l.m l.i;
}
