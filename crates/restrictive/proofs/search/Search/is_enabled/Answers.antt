use Rattle.std.proofs.Common.{refl, sym, ◌∙◌, arith}
use Rattle.bounded.specs.Search.{any}
use Rattle.restrictive.proofs.Offers.{stuck_here, stuck_before, enabled-all}
use Rattle.restrictive.proofs.search.Search.is_enabled.Goals as goal
use Rattle.restrictive.proofs.search.Search.is_enabled.Goals.{then-row_from-eq0, else-row_from-eq0}

pub loop-s-init : goal.loop-s-init
unfolding any
loop-s-init c = refl

pub loop-s-preserved : goal.loop-s-preserved
loop-s-preserved c =
    let read = c.row_from.ensures in
    elim c.if-row_from-eq0.branch [
      | then-row_from-eq0 w ↦ w.stuck-is ∙ stuck_here _ _ _ (sym read ∙ w.if-row_from-eq0.true)
      | else-row_from-eq0 w ↦ w.stuck-is ∙ c.loop-s.invariant ∙ stuck_before _ _ _ (λ z. w.if-row_from-eq0.false (read ∙ z))
    ]

pub returns : goal.returns
returns c = enabled-all _ _ _ _ (omega arith) c.loop-s.invariant
