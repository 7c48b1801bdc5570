use Rattle.std.proofs.Common.{refl, sym}
use Rattle.restrictive.specs.Answers.{verdict_of}
use Rattle.store.proofs.Appends.{load-endless, load-fails, load-passing}
use Rattle.store.proofs.call.load.Goals as goal
use Rattle.store.proofs.Told.{told, told-failure}

pub returns-in_err-end-clause-result_value : goal.returns-in_err-end-clause-result_value
returns-in_err-end-clause-result_value c =
    simp (load-endless c.args.s.now c.args.r.now c.in_err-end.ensures) (told c.from_residual.result _ c.from_residual.ensures.1)

pub returns-in_err-end-clause-s_after : goal.returns-in_err-end-clause-s_after
returns-in_err-end-clause-s_after c =
    simp (load-endless c.args.s.now c.args.r.now c.in_err-end.ensures) (refl)

pub returns-in_err-check-clause-result_value : goal.returns-in_err-check-clause-result_value
unfolding verdict_of
returns-in_err-check-clause-result_value c =
    let r = c.from_residual-in_err-check in
    simp (load-fails c.args.s.now c.args.r.now _ c.in_ok-end.ensures.ends _ (sym c.in_err-check.ensures.verdict))
    (told-failure r.result _ r.ensures.1)

pub returns-in_err-check-clause-s_after : goal.returns-in_err-check-clause-s_after
unfolding verdict_of
returns-in_err-check-clause-s_after c =
    simp (load-fails c.args.s.now c.args.r.now _ c.in_ok-end.ensures.ends _ (sym c.in_err-check.ensures.verdict)) (refl)

pub returns-clause-result_value : goal.returns-clause-result_value
unfolding verdict_of
returns-clause-result_value c =
    simp (load-passing c.args.s.now c.args.r.now _ c.in_ok-end.ensures.ends (sym c.in_ok-check.ensures.verdict)) (c.append.ensures.result_value)

pub returns-clause-s_after : goal.returns-clause-s_after
unfolding verdict_of
returns-clause-s_after c =
    simp (load-passing c.args.s.now c.args.r.now _ c.in_ok-end.ensures.ends (sym c.in_ok-check.ensures.verdict)) (c.append.ensures.s_after)
