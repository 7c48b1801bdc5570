use Rattle.std.proofs.Common.{◌≡◌}
use Rattle.words.specs.Laid.{over}
use Rattle.join.proofs.HeadEntries.{first-entries}
use Rattle.join.proofs.joint.Joint.put_entries.Given as goal

-- The first i entries are laid.
abbrev pub invariant-loop-i : goal.invariant-loop-i
invariant-loop-i l = l.out ≡ over l.initial.out l.at (first-entries l.self.a.bytes.now l.self.b.bytes.now l.i)
