use Rattle.std.proofs.Common.{◌≡◌, sym, ap, ◌∙◌, arith, length}
use mathlib.Core.Option.{none}
use Rattle.std.proofs.lemmas.Result.{err_from_is_err_and}
use Rattle.restrictive.specs.Verdict.{pass, verdict}
use Rattle.composite.specs.Joined.{joined}
use Rattle.composite.specs.Joining.{obstacle, length_is, unless_unfit, joining, buffer_after}
use Rattle.composite.specs.Answers.{joining_of, side_of}
use Rattle.join.proofs.JoinAnswers.{stays, obstructed, roomless, roomy}
use Rattle.join.proofs.call.join.Goals as goal
use Rattle.join.proofs.call.join.Goals.{In_ok-first, In_ok-second, In_ok-joint, After-size-size}

-- The first record passes, the second passes, and nothing stops the join.
first_passes : (c : In_ok-first) → verdict c.args.a.now ≡ pass
first_passes c = c.in_ok-first.ensures.passes.1

second-passes : (c : In_ok-second) → verdict c.args.b.now ≡ pass
second-passes c = c.in_ok-second.ensures.passes.1

unstopped : (c : In_ok-joint) → obstacle c.args.a.now c.args.b.now ≡ none
unstopped c = rw (c.in_ok-first.ensures.passes.0, c.in_ok-second.ensures.passes.0) at c.in_ok-joint.ensures.fit

-- The length of their joined record.
sized : (c : After-size-size) → c.size-size.result ≡ length (joined c.args.a.now c.args.b.now)
sized c =
    let parts = c.in_ok-joint.ensures.parts in
    rw (parts.0, parts.1, c.in_ok-first.ensures.passes.0, c.in_ok-second.ensures.passes.0) at c.size-size.ensures

pub returns-in_err-first-clause-result_value : goal.returns-in_err-first-clause-result_value
unfolding joining side_of
returns-in_err-first-clause-result_value c =
    let p = err_from_is_err_and c.from_residual.result c.from_residual.ensures.1 in
    rw (p.1, p.2) (sym (c.in_err-first.ensures.unfit _))

pub returns-in_err-first-clause-out_after : goal.returns-in_err-first-clause-out_after
returns-in_err-first-clause-out_after c =
    let p = err_from_is_err_and c.from_residual.result c.from_residual.ensures.1 in
    rw p.1 (sym (stays _ _ _))

pub returns-in_err-second-clause-result_value : goal.returns-in_err-second-clause-result_value
unfolding joining side_of unless_unfit
returns-in_err-second-clause-result_value c =
    let r = c.from_residual-in_err-second in
    let p = err_from_is_err_and r.result r.ensures.1 in
    rw (p.1, p.2, first_passes (goal.at.returns-in_err-second-clause-result_value c).In_ok-first)
    (sym (c.in_err-second.ensures.unfit _))

pub returns-in_err-second-clause-out_after : goal.returns-in_err-second-clause-out_after
returns-in_err-second-clause-out_after c =
    let r = c.from_residual-in_err-second in
    let p = err_from_is_err_and r.result r.ensures.1 in
    rw p.1 (sym (stays _ _ _))

pub returns-in_err-joint-clause-result_value : goal.returns-in_err-joint-clause-result_value
unfolding joining_of
returns-in_err-joint-clause-result_value c =
    let at = goal.at.returns-in_err-joint-clause-result_value c in
    let r = c.from_residual-in_err-joint in
    let p = err_from_is_err_and r.result r.ensures.1 in
    rw (p.1, p.2)
    (sym (obstructed _ _ _ (first_passes at.In_ok-first) (second-passes at.In_ok-second)
    (rw (c.in_ok-first.ensures.passes.0, c.in_ok-second.ensures.passes.0) at c.in_err-joint.ensures.fit)))

pub returns-in_err-joint-clause-out_after : goal.returns-in_err-joint-clause-out_after
returns-in_err-joint-clause-out_after c =
    let r = c.from_residual-in_err-joint in
    let p = err_from_is_err_and r.result r.ensures.1 in
    rw p.1 (sym (stays _ _ _))

pub returns-then-out-size-clause-result_value : goal.returns-then-out-size-clause-result_value
unfolding joining_of
returns-then-out-size-clause-result_value c =
    let at = goal.at.returns-then-out-size-clause-result_value c in
    sym (roomless _ _ _ (first_passes at.In_ok-first) (second-passes at.In_ok-second) (unstopped at.In_ok-joint)
    (omega (arith, sized at.After-size-size)))

pub returns-then-out-size-clause-out_after : goal.returns-then-out-size-clause-out_after
returns-then-out-size-clause-out_after c = sym (stays _ _ _)

pub returns-clause-result_value : goal.returns-clause-result_value
unfolding joining_of
returns-clause-result_value c =
    let at = goal.at.returns-clause-result_value c in
    ap length_is (sized at.After-size-size)
    ∙ sym (roomy _ _ _ (first_passes at.In_ok-first) (second-passes at.In_ok-second) (unstopped at.In_ok-joint)
    (omega (arith, sized at.After-size-size)))

pub returns-clause-out_after : goal.returns-clause-out_after
unfolding joining_of buffer_after
returns-clause-out_after c =
    let parts = c.in_ok-joint.ensures.parts in
    rw (parts.0, parts.1, c.in_ok-first.ensures.passes.0, c.in_ok-second.ensures.passes.0) at c.write.ensures
