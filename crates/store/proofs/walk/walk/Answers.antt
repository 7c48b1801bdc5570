use Rattle.std.proofs.Common.{◌≡◌, ℕ, ◌-◌, List, take, drop, length, ap, sym, ◌∙◌, arith, length-drop}
use lib.Seq.{take_all}
use Rattle.store.specs.Leading.{ends_there}
use Rattle.store.specs.Walk.{front}
use Rattle.store.proofs.Leading.{length-first, length-none, length-leading, leading-within}
use Rattle.store.proofs.Leading.{leading-ends, leading_endless}
use Rattle.store.proofs.walk.walk.Goals as goal

-- The bytes from a place on.
rest : (s : List ℕ) (at : ℕ) → take (length s - at) (drop at s) ≡ drop at s
rest s at = take_all (length s - at) (drop at s) (omega (arith, length-drop at s))

pub overflow_add-end : goal.overflow_add-end
overflow_add-end c = omega (arith, (length-first c.in-Some.ensures.steps).0, length-leading c.args.s.now)

pub overflow_add-end-in-loop-record : goal.overflow_add-end-in-loop-record
overflow_add-end-in-loop-record c = omega (arith, (length-first c.in-Some.ensures.steps).1, leading-within c.args.s.now)

pub loop-record-preserved : goal.loop-record-preserved
loop-record-preserved c =
    let one = length-first c.in-Some.ensures.steps in
    (omega (arith, one.0), omega (arith, one.1))

pub slice_bounds-is_end-count : goal.slice_bounds-is_end-count
slice_bounds-is_end-count c = omega (arith, (length-none c.in-None.ensures.steps.0).1, leading-within c.args.s.now)

pub slice_bounds-is_end-start : goal.slice_bounds-is_end-start
slice_bounds-is_end-start c = omega (arith, (length-none c.in-None.ensures.steps.0).1, leading-within c.args.s.now)

pub returns-then-not-is_end : goal.returns-then-not-is_end
returns-then-not-is_end c =
    leading_endless c.args.s.now (omega (arith, (length-none c.in-None.ensures.steps.0).1))
    (sym c.if-not-is_end.true
    ∙ c.is_end.ensures
    ∙ ap (λ (t : List ℕ). ends_there (front t)) (rest c.args.s.now c.loop-record.end.place))

pub returns : goal.returns
returns c =
    leading-ends c.args.s.now (omega (arith, (length-none c.in-None.ensures.steps.0).1))
    (omega (arith, (length-none c.in-None.ensures.steps.0).0))
    (sym c.if-not-is_end.false
    ∙ c.is_end.ensures
    ∙ ap (λ (t : List ℕ). ends_there (front t)) (rest c.args.s.now c.loop-record.end.place))
