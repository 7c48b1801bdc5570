use Rattle.std.proofs.Common.{◌≡◌, sym, ap, ◌∙◌}
use mathlib.Core.Option.{none}
use Rattle.std.proofs.lemmas.Result.{err_from_is_err_and}
use Rattle.screening.specs.Rejections.{rejection}
use Rattle.screening.specs.Answers.{rejection_of}
use Rattle.restrictive.specs.Verdict.{limit}
use Rattle.restrictive.proofs.Verdicts.{reports_refused, reports_pass, reports_break}
use Rattle.restrictive.proofs.call.check.Goals as goal
use Rattle.restrictive.proofs.call.check.Goals.{In_ok-accepted}

-- no rejection applies
accepted : (c : In_ok-accepted) → rejection c.args.bytes.now ≡ none
unfolding rejection_of
accepted c = sym c.in_ok-accepted.ensures.rejection

pub returns-in_err-accepted : goal.returns-in_err-accepted
unfolding rejection_of
returns-in_err-accepted c =
    let p = err_from_is_err_and c.from_residual.result c.from_residual.ensures.1 in
    rw (p.1, p.2) (reports_refused _ _ (sym c.in_err-accepted.ensures.rejection))

pub returns-in_err-taken : goal.returns-in_err-taken
returns-in_err-taken c =
    let p = err_from_is_err_and c.from_residual-in_err-taken.result c.from_residual-in_err-taken.ensures.1 in
    rw (p.1, p.2)
    (reports_break _ _ (accepted (goal.at.returns-in_err-taken c).In_ok-accepted)
    (rw c.in_ok-accepted.ensures.bytes at c.in_err-taken.ensures))

pub returns : goal.returns
returns c =
    let e = c.in_ok-accepted.ensures.bytes in
    reports_pass _ _ _ (accepted (goal.at.returns c).In_ok-accepted)
    (rw e at c.in_ok-taken.ensures) (c.limit_of.ensures ∙ ap limit e)
