use Rattle.std.proofs.Common.{◌≡◌, sym, ap, ◌∙◌}
use mathlib.Core.Option.{none}
use Rattle.std.proofs.lemmas.Result.{err_from_is_err_and}
use Rattle.composite.specs.Joining.{first_clash}
use Rattle.composite.specs.Answers.{obstacle_of}
use Rattle.composite.specs.Walk.{fit_of}
use Rattle.composite.proofs.Obstacles.{different, clashing, large, clear}
use Rattle.composite.proofs.obstacle.obstacle.Goals as goal
use Rattle.composite.proofs.obstacle.obstacle.Goals.{In_ok-first_clash}

-- No shared event clashes.
clashless : (c : In_ok-first_clash) → first_clash c.args.a.record.bytes.now c.args.b.record.bytes.now ≡ none
unfolding fit_of
clashless c = sym c.first_clash.ensures ∙ ap fit_of c.in_ok-first_clash.was

pub returns-then-observers_differ : goal.returns-then-observers_differ
unfolding fit_of obstacle_of
returns-then-observers_differ c = sym (different _ _ (sym c.observers_differ.ensures ∙ c.if-observers_differ.true))

pub returns-in_err-first_clash : goal.returns-in_err-first_clash
unfolding fit_of
returns-in_err-first_clash c =
    let same = sym c.observers_differ.ensures ∙ c.if-observers_differ.false in
    let p = err_from_is_err_and c.from_residual.result c.from_residual.ensures.1 in
    rw (p.1, p.2) (sym (clashing _ _ _ same (sym c.in_err-first_clash.ensures)))

pub returns-then-too_large : goal.returns-then-too_large
unfolding fit_of obstacle_of
returns-then-too_large c =
    let same = sym c.observers_differ.ensures ∙ c.if-observers_differ.false in
    sym (large _ _ same (clashless (goal.at.returns-then-too_large c).In_ok-first_clash) (sym c.too_large.ensures ∙ c.if-too_large.true))

pub returns : goal.returns
unfolding fit_of
returns c =
    let same = sym c.observers_differ.ensures ∙ c.if-observers_differ.false in
    sym (clear _ _ same (clashless (goal.at.returns c).In_ok-first_clash) (sym c.too_large.ensures ∙ c.if-too_large.false))
