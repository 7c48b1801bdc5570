use Rattle.std.proofs.Common.{◌≡◌, ◌<◌, [], ◌∷◌, ℕ, List, get_or, take, ◌+◌, sym, ap, refl, ◌∙◌, arith, length, drop}
use mathlib.Core.List.{flatten}
use Rattle.store.specs.Leading.{leading}
use Rattle.store.specs.Reading.{part}
use Rattle.store.proofs.Leading.{passed, records-leading, place-leading, leading-within, taken-within}
use Rattle.store.proofs.Told.{next_there}
use Rattle.store.proofs.record.extent.Goals as goal
use Rattle.store.proofs.record.extent.Goals.{Start, After-unwrap}

-- The records that a walk finds are those at the start.
inside : (c : Start) → c.args.i < length (leading c.args.s.now)
inside c = rw (records-leading _ _ c.requires.s_value) c.requires.i_in_bounds

pub loop-init : goal.loop-init
unfolding flatten
loop-init c = (ap leading c.of-records.ensures, refl)

pub unwrap-requires : goal.unwrap-requires
unwrap-requires c =
    next_there c.loop.records c.next.new.self c.next.result _ c.loop.counter c.next.ensures.steps c.loop.invariant.0
    (omega (arith, inside (goal.at.unwrap-requires c).Start))

-- One record further: what is left, and where it begins.
further : (c : After-unwrap) → c.args.i < length (leading c.args.s.now)
    → (drop (c.loop.counter + 1) (leading c.args.s.now) ≡ leading c.next.new.self.rest.now)
    × (length (flatten (take (c.loop.counter + 1) (leading c.args.s.now))) ≡ c.loop.place + length c.unwrap.result.now)
further c l =
    let p = passed _ c.loop.counter (omega arith) (sym c.loop.invariant.0 ∙ rw c.unwrap.ensures at c.next.ensures.steps) in
    (p.1, omega (arith, p.2, c.loop.invariant.1))

pub loop-preserved : goal.loop-preserved
loop-preserved c =
    let at = goal.at.loop-preserved c in
    let p = further at.After-unwrap (inside at.Start) in
    (sym p.0, sym p.1)

pub overflow_add-place : goal.overflow_add-place
overflow_add-place c =
    let at = goal.at.overflow_add-place c in
    omega (
      arith,
      (further at.After-unwrap (inside at.Start)).1,
      taken-within (c.loop.counter + 1) (leading c.args.s.now),
      leading-within c.args.s.now,
    )

pub unwrap-requires-2 : goal.unwrap-requires-2
unwrap-requires-2 c =
    next_there c.loop.records c.next-2.new.self c.next-2.result _ c.loop.counter c.next-2.ensures.steps c.loop.invariant.0
    (omega (arith, inside (goal.at.unwrap-requires-2 c).Start))

pub returns : goal.returns
unfolding part
returns c =
    let at : c.loop.counter ≡ c.args.i = omega arith in
    let p = passed _ c.loop.counter (omega (arith, inside (goal.at.returns c).Start))
    (sym c.loop.invariant.0 ∙ rw c.unwrap-2.ensures at c.next-2.ensures.steps) in
    record {
      starts = c.loop.invariant.1 ∙ ap (λ (k : ℕ). length (flatten (take k (leading c.args.s.now)))) at
          ∙ sym (place-leading c.args.s.now c.args.i c.requires.s_value);
      long = ap length p.0
          ∙ ap (λ (k : ℕ). length (get_or (leading c.args.s.now) k [])) at
          ∙ ap (λ (rs : List (List ℕ)). length (get_or rs c.args.i [])) (records-leading _ _ c.requires.s_value);
    }
