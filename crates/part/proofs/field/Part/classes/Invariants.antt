use Rattle.std.proofs.Common.{◌≤◌, ◌≡◌}
use Rattle.part.specs.Record.{classes_below}
use Rattle.part.proofs.field.Part.classes.Given as goal

abbrev pub invariant-loop-c : goal.invariant-loop-c
invariant-loop-c l = (l.count ≡ classes_below l.column l.c-index) × (l.count ≤ 256)
