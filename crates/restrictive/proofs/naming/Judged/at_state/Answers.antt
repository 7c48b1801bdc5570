use Rattle.std.proofs.Common.{refl, arith}
use Rattle.std.proofs.lemmas.Result.{err_from_is_err_and}
use Rattle.restrictive.specs.Verdict.{state_violation}
use Rattle.restrictive.proofs.Scans.{found_first}
use Rattle.restrictive.proofs.naming.Judged.at_state.Goals as goal

pub returns-in_err-at_target : goal.returns-in_err-at_target
unfolding state_violation
returns-in_err-at_target c =
    let p = err_from_is_err_and c.from_residual.result c.from_residual.ensures.1 in
    rw (p.1, p.2) (found_first _ _ _ c.in_err-at_target.ensures c.loop-t.invariant _ _ refl (omega (arith, c.args.self.now.search.sound.sized)))
