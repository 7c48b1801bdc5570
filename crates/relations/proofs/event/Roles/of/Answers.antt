use Rattle.std.proofs.Common.{◌≡◌, ap, ◌∙◌, not, arith}
use Rattle.part.specs.Record.{events}
use Rattle.relations.proofs.Concerned.{marked_none, marked_more}
use Rattle.relations.proofs.Concerned.{roles_all}
use Rattle.relations.proofs.Roles.{is_input_kind}
use Rattle.relations.proofs.event.Roles.of.Goals as goal

pub loop-i-init : goal.loop-i-init
loop-i-init c = (marked_none _, marked_none _, marked_none _)

pub loop-i-preserved : goal.loop-i-preserved
loop-i-preserved c =
    let (inputs, seen, unseen) = c.loop-i.invariant in
    let sees = c.is_seen-sees.ensures in (
      marked_more _ _ _ _ _ (c.eq.ensures ∙ is_input_kind _ _ c.event_kind.ensures) inputs c.mark-inputs.ensures,
      marked_more _ _ _ _ _ sees seen c.mark-seen.ensures,
      marked_more _ _ _ _ _ (ap not sees) unseen c.mark-unseen.ensures,
    )

pub returns : goal.returns
returns c =
    let e : c.loop-i.i ≡ events c.args.b.bytes.now = omega arith in
    let (inputs, seen, unseen) = rw e at c.loop-i.invariant in
    roles_all _ _ _ _ _ _ _ _ _ inputs seen unseen c.intersection.ensures
    c.intersection-2.ensures
    c.difference.ensures
    c.difference-2.ensures
