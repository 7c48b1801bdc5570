use Rattle.relations.specs.Sets.{seen_at}
use Rattle.relations.proofs.Concerned.{Marked}
use Rattle.relations.proofs.Concerned.{is_input, is_unseen}
use Rattle.relations.proofs.event.Roles.of.Given as goal

abbrev pub invariant-loop-i : goal.invariant-loop-i
invariant-loop-i l =
    Marked (is_input l.b.bytes.now l.observer) l.i l.inputs × Marked (seen_at l.b.bytes.now l.observer) l.i l.seen
    × Marked (is_unseen l.b.bytes.now l.observer) l.i l.unseen
