use Rattle.std.proofs.Common.{◌+◌, ◌≡◌, drop}
use Rattle.words.specs.Laid.{over}
use Rattle.words.proofs.copy.lay.Given as goal

-- Laying the bytes that are left gives what laying them all at the start does.
abbrev pub invariant-loop-i : goal.invariant-loop-i
invariant-loop-i l = over l.out (l.at + l.i) (drop l.i l.bytes) ≡ over l.initial.out l.at l.bytes
