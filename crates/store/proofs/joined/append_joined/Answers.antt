use Rattle.std.proofs.Common.{◌≡◌, refl, ◌∙◌, arith, length}
use mathlib.Core.Option.{none}
use Rattle.composite.specs.Joined.{joined}
use Rattle.composite.specs.Joining.{obstacle}
use Rattle.screening.proofs.Ranges.{frame}
use Rattle.join.specs.Pieces.{Joint}
use Rattle.join.proofs.JoinAnswers.{passing-accepted, joint}
use Rattle.join.proofs.PieceOrder.{joined-most}
use Rattle.store.proofs.Told.{told-stopped}
use Rattle.store.proofs.HookupLaws.{joined-stopped, joined_full, joined-room, laid_behind}
use Rattle.store.proofs.joined.append_joined.Goals as goal
use Rattle.store.proofs.joined.append_joined.Goals.{In_ok-joint, After-size-size}

-- Nothing stands between the two records, ..
clear : (c : In_ok-joint) → obstacle c.args.a.now c.args.b.now ≡ none
clear c = rw (c.of-2.ensures, c.of-4.ensures, c.of.ensures, c.of-3.ensures) at c.in_ok-joint.ensures.fit

joins : (c : In_ok-joint) → Joint c.args.a.now c.args.b.now
joins c = joint _ _ c.requires.a_passes c.requires.b_passes (clear c)

-- .. and the length of the joined one.
sized : (c : After-size-size) → c.size-size.result ≡ length (joined c.args.a.now c.args.b.now)
sized c =
    let parts = c.in_ok-joint.ensures.parts in
    rw (parts.0, parts.1, c.of-2.ensures, c.of-4.ensures, c.of.ensures, c.of-3.ensures) at c.size-size.ensures

pub of-requires : goal.of-requires
of-requires c = frame _ (passing-accepted _ c.requires.a_passes)

pub of-requires-3 : goal.of-requires-3
of-requires-3 c = frame _ (passing-accepted _ c.requires.b_passes)

pub of-requires-2 : goal.of-requires-2
of-requires-2 c = rw c.of.ensures (passing-accepted _ c.requires.a_passes)

pub of-requires-4 : goal.of-requires-4
of-requires-4 c = rw c.of-3.ensures (passing-accepted _ c.requires.b_passes)

pub returns-in_err-joint-clause-result_value : goal.returns-in_err-joint-clause-result_value
returns-in_err-joint-clause-result_value c =
    told-stopped c.from_residual.result _ c.from_residual.ensures.1
    ∙ (joined-stopped c.args.n c.args.back.now _ _ (rw (c.of-2.ensures, c.of-4.ensures, c.of.ensures, c.of-3.ensures) at c.in_err-joint.ensures.fit)).0

pub returns-in_err-joint-clause-back_after : goal.returns-in_err-joint-clause-back_after
returns-in_err-joint-clause-back_after c =
    (joined-stopped c.args.n _ _ _ (rw (c.of-2.ensures, c.of-4.ensures, c.of.ensures, c.of-3.ensures) at c.in_err-joint.ensures.fit)).1

pub overflow_add-size : goal.overflow_add-size
overflow_add-size c =
    let at = goal.at.overflow_add-size c in
    omega (arith, sized at.After-size-size, joined-most _ _ (joins at.In_ok-joint))

pub returns-then-back-size-clause-result_value : goal.returns-then-back-size-clause-result_value
returns-then-back-size-clause-result_value c =
    let at = goal.at.returns-then-back-size-clause-result_value c in
    (joined_full c.args.n _ _ _ (clear at.In_ok-joint) (omega (arith, sized at.After-size-size))).0

pub returns-then-back-size-clause-back_after : goal.returns-then-back-size-clause-back_after
returns-then-back-size-clause-back_after c =
    let at = goal.at.returns-then-back-size-clause-back_after c in
    (joined_full c.args.n _ _ _ (clear at.In_ok-joint) (omega (arith, sized at.After-size-size))).1

pub returns-clause-result_value : goal.returns-clause-result_value
returns-clause-result_value c =
    let at = goal.at.returns-clause-result_value c in
    (joined-room c.args.n c.args.back.now _ _ (clear at.In_ok-joint) (omega (arith, c.if-back-size, sized at.After-size-size)) refl).0

pub returns-clause-back_after : goal.returns-clause-back_after
returns-clause-back_after c =
    let at = goal.at.returns-clause-back_after c in
    let parts = c.in_ok-joint.ensures.parts in
    (joined-room c.args.n _ _ _ (clear at.In_ok-joint) (omega (arith, c.if-back-size, sized at.After-size-size))
    (c.put_end.ensures
    ∙ laid_behind _ _ (rw (parts.0, parts.1, c.of-2.ensures, c.of-4.ensures, c.of.ensures, c.of-3.ensures) at c.write.ensures) (sized at.After-size-size))).1
