use Rattle.std.proofs.Common.{◌+◌, ◌-◌, ◌≡◌}
use Rattle.part.specs.Record.{events}
use Rattle.composite.proofs.EntryWalk.{Walked}
use Rattle.composite.proofs.merge.merge.Given as goal

abbrev pub invariant-loop-i : goal.invariant-loop-i
invariant-loop-i l =
    (l.total ≡ events l.a.bytes.now + events l.b.bytes.now) × Walked l.a.bytes.now l.b.bytes.now l.identifiers.items l.i l.j

abbrev pub decreases-loop-i : goal.decreases-loop-i
decreases-loop-i l = events l.a.bytes.now + events l.b.bytes.now - (l.i + l.j)
