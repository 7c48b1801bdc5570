use Rattle.std.proofs.Common.{ℕ, refl, sym, ap, ◌∙◌, arith}
use mathlib.Core.Option.{some}
use Rattle.bounded.specs.Search.{first}
use Rattle.bounded.proofs.Search.{first_more, first_hit, first_done}
use Rattle.screening.proofs.Ranges.{ranges}
use Rattle.composite.specs.Joining.{clash, clash_at, first_clash}
use Rattle.composite.specs.Answers.{obstacle_of}
use Rattle.composite.specs.Walk.{fit_of}
use Rattle.composite.proofs.Obstacles.{alone, clash_here, no-clash_here}
use Rattle.composite.proofs.obstacle.first_clash.Goals as goal
use Rattle.composite.proofs.obstacle.first_clash.Goals.{in-Some+else-clash_at, in_default}

pub loop-i-init : goal.loop-i-init
unfolding first
loop-i-init c = refl

pub place_near-requires : goal.place_near-requires
place_near-requires c = (ranges _ c.args.b.accepted).identifiers_rise

pub clash_at-requires-clause-j_value : goal.clash_at-requires-clause-j_value
clash_at-requires-clause-j_value c = rw (← c.identifier-e.ensures.value) c.in-Some.ensures.1

pub returns-then-clash_at : goal.returns-then-clash_at
unfolding fit_of obstacle_of first_clash
returns-then-clash_at c =
    let here = clash_here _ _ c.loop-i.i c.clash_at.ensures c.if-clash_at.true in
    ap (λ (e : ℕ). some (clash e)) c.identifier-e.ensures.value
    ∙ sym (first_hit (clash_at _ _) _ c.loop-i.i _ (omega arith) c.loop-i.invariant here)

pub loop-i-preserved : goal.loop-i-preserved
loop-i-preserved c =
    elim c.match-place_near.branch [
      | in-Some+else-clash_at w ↦
          first_more _ c.loop-i.i c.loop-i.invariant
          (no-clash_here _ _ c.loop-i.i w.clash_at.ensures w.if-clash_at.false)
      | in_default w ↦
          first_more _ c.loop-i.i c.loop-i.invariant
          (no-clash_here _ _ c.loop-i.i
          (sym (alone _ _ _ (rw (← c.identifier-e.ensures.value) w.in_default.ensures))) refl)
    ]

pub returns : goal.returns
unfolding fit_of first_clash
returns c = sym (first_done (clash_at _ _) _ c.loop-i.i (omega arith) c.loop-i.invariant)
