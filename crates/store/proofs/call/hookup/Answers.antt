use Rattle.std.proofs.Common.{◌≡◌, sym, ◌∙◌}
use Rattle.store.specs.Reading.{part}
use Rattle.store.proofs.Told.{told}
use Rattle.store.proofs.HookupLaws.{passes-pass, stands_before, reads_part}
use Rattle.store.proofs.HookupLaws.{hookup-no_end, hookup-no-first, hookup-no-second, first-unfit, second-unfit, both_fit}
use Rattle.store.proofs.call.hookup.Goals as goal
use Rattle.store.proofs.call.hookup.Goals.{After-record-first, After-record-second}
use Rattle.store.proofs.call.hookup.Goals.{then-end-i-via-then-end-i, then-end-i-via-else-end-i+then-end-j}

-- The first record is record i, and the second is record j.
first : (c : After-record-first) → c.record-first.result.now ≡ part c.args.s.now c.args.i
first c = reads_part _ c.in_ok-end.ensures c.split_at_mut-front.ensures.front c.args.i c.record-first.ensures

second : (c : After-record-second) → c.record-second.result.now ≡ part c.args.s.now c.args.j
second c = reads_part _ c.in_ok-end.ensures c.split_at_mut-front.ensures.front c.args.j c.record-second.ensures

pub returns-in_err-end : goal.returns-in_err-end
returns-in_err-end c =
    let l = hookup-no_end _ _ _ c.in_err-end.ensures in
    record { result_value = told c.from_residual.result _ c.from_residual.ensures.1 ∙ l.0; s_after = l.1 }

pub record-first-requires : goal.record-first-requires
record-first-requires c =
    stands_before _ c.in_ok-end.ensures c.split_at_mut-front.ensures.front c.args.i c.if-end-i.false

pub record-second-requires : goal.record-second-requires
record-second-requires c =
    stands_before _ c.in_ok-end.ensures c.split_at_mut-front.ensures.front c.args.j c.if-end-j.false

pub returns-then-end-i : goal.returns-then-end-i
returns-then-end-i c =
    elim c.then-end-i.branch [
      | then-end-i-via-then-end-i w ↦
          let l = hookup-no-first _ _ _ c.in_ok-end.ensures w.if-end-i.true in
          record { result_value = l.0; s_after = l.1 }
      | then-end-i-via-else-end-i+then-end-j w ↦
          let l = hookup-no-second _ _ _ c.in_ok-end.ensures w.if-end-i.false w.if-end-j.true in
          record { result_value = l.0; s_after = l.1 }
    ]

pub returns-then-not-passes : goal.returns-then-not-passes
returns-then-not-passes c =
    let l = first-unfit _ _ _ c.in_ok-end.ensures c.if-end-i.false c.if-end-j.false
    (first (goal.at.returns-then-not-passes c).After-record-first) (sym c.if-not-passes.true ∙ c.passes.ensures) in
    record { result_value = l.0; s_after = sym c.split_at_mut-front.ensures.value ∙ l.1 }

pub returns-then-not-passes-2 : goal.returns-then-not-passes-2
returns-then-not-passes-2 c =
    let at = goal.at.returns-then-not-passes-2 c in
    let l = second-unfit _ _ _ c.in_ok-end.ensures c.if-end-i.false c.if-end-j.false (first at.After-record-first)
    (second at.After-record-second) (sym c.if-not-passes.false ∙ c.passes.ensures)
    (sym c.if-not-passes-2.true ∙ c.passes-2.ensures) in
    record { result_value = l.0; s_after = sym c.split_at_mut-front.ensures.value ∙ l.1 }

pub append_joined-requires-clause-a_passes : goal.append_joined-requires-clause-a_passes
append_joined-requires-clause-a_passes c = passes-pass _ (sym c.if-not-passes.false ∙ c.passes.ensures)

pub append_joined-requires-clause-b_passes : goal.append_joined-requires-clause-b_passes
append_joined-requires-clause-b_passes c = passes-pass _ (sym c.if-not-passes-2.false ∙ c.passes-2.ensures)

pub returns-else-not-passes-2 : goal.returns-else-not-passes-2
returns-else-not-passes-2 c =
    let at = goal.at.returns-else-not-passes-2 c in
    let l = both_fit _ _ _ c.in_ok-end.ensures c.if-end-i.false c.if-end-j.false (first at.After-record-first)
    (second at.After-record-second) (sym c.if-not-passes.false ∙ c.passes.ensures)
    c.split_at_mut-front.ensures.front c.split_at_mut-front.ensures.back
    (sym c.if-not-passes-2.false ∙ c.passes-2.ensures) _ _
    (c.append_joined.ensures.result_value, c.append_joined.ensures.back_after) in
    record { result_value = l.0; s_after = l.1 }
