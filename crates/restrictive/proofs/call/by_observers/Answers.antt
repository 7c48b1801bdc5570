use Rattle.std.proofs.Common.{arith}
use Rattle.std.proofs.lemmas.Result.{err_from_is_err_and}
use Rattle.restrictive.proofs.Scans.{first_start}
use Rattle.restrictive.proofs.Observers.{search_ends, search_goes_on, search_done}
use Rattle.restrictive.proofs.call.by_observers.Goals as goal
use Rattle.restrictive.proofs.call.by_observers.Goals.{then-o-eq0, else-o-eq0}

pub loop-o-init : goal.loop-o-init
loop-o-init c = (first_start _, λ l. absurd (omega arith))

pub returns-in_err-states : goal.returns-in_err-states
returns-in_err-states c =
    let p = err_from_is_err_and c.from_residual.result c.from_residual.ensures.1 in
    rw (p.1, p.2) (search_ends _ _ c.loop-o.invariant.0 _ c.in_err-states.ensures (omega arith))

pub loop-o-preserved : goal.loop-o-preserved
loop-o-preserved c = (
  search_goes_on _ _ c.loop-o.invariant.0 _ c.in_ok-states.ensures,
  λ l. elim c.if-o-eq0.branch [
    | then-o-eq0 w ↦ rw w.taken-is (rw w.if-o-eq0.true at c.in_ok-states.ensures)
    | else-o-eq0 w ↦ rw w.taken-is (c.loop-o.invariant.1 (omega arith))
  ],
)

pub returns : goal.returns
returns c =
    let some_observer = c.args.accepted.record.framed.some_observer in
    search_done _ _ _ (c.loop-o.invariant.1 (omega (arith, some_observer))) (omega (arith, some_observer)) c.loop-o.invariant.0
