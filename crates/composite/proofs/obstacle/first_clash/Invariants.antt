use Rattle.std.proofs.Common.{◌≡◌}
use mathlib.Core.Option.{none}
use Rattle.bounded.specs.Search.{first}
use Rattle.composite.specs.Joining.{clash_at}
use Rattle.composite.proofs.obstacle.first_clash.Given as goal

-- No event before place i clashes.
abbrev pub invariant-loop-i : goal.invariant-loop-i
invariant-loop-i l = first l.i (clash_at l.a.record.bytes.now l.b.record.bytes.now) ≡ none
