use Rattle.std.proofs.Common.{◌≡◌, sym, ap, ◌∙◌}
use Rattle.std.proofs.lemmas.Result.{err_from_is_err_and}
use mathlib.Core.Option.{none}
use Rattle.screening.specs.Answers.{rejection_of}
use Rattle.screening.specs.Rejections.{frame_conditions, first_of, rejection}
use Rattle.screening.proofs.Accepted.{frame_first, content_next, rejection-none}
use Rattle.screening.proofs.rejection.screen.Goals as goal
use Rattle.screening.proofs.rejection.screen.Goals.{In_ok-record}

-- none of the frame's conditions holds
frame-passed : (c : In_ok-record) → first_of frame_conditions c.in_ok-record.record.bytes.now ≡ none
unfolding rejection_of
frame-passed c = ap (first_of frame_conditions) c.in_ok-record.ensures.bytes ∙ sym c.in_ok-record.ensures.rejection

pub returns-in_err-record-clause-rejection : goal.returns-in_err-record-clause-rejection
unfolding rejection_of
returns-in_err-record-clause-rejection c =
    let p = err_from_is_err_and c.from_residual.result c.from_residual.ensures.1 in
    rw (p.1, p.2) (sym (frame_first _ _ (sym c.in_err-record.ensures.rejection)))

pub returns-in_err-screen_content-clause-rejection : goal.returns-in_err-screen_content-clause-rejection
unfolding rejection_of
returns-in_err-screen_content-clause-rejection c =
    let frame = frame-passed (goal.at.returns-in_err-screen_content-clause-rejection c).In_ok-record in
    let p = err_from_is_err_and c.from_residual-in_err-screen_content.result c.from_residual-in_err-screen_content.ensures.1 in
    rw (p.1, p.2) (c.in_err-screen_content.ensures ∙ sym (content_next _ frame) ∙ ap rejection c.in_ok-record.ensures.bytes)

pub of-requires : goal.of-requires
unfolding rejection_of
of-requires c = (rejection-none _).0 (content_next _ (frame-passed (goal.at.of-requires c).In_ok-record) ∙ sym c.in_ok-screen_content.ensures)

pub returns-clause-rejection : goal.returns-clause-rejection
unfolding rejection_of
returns-clause-rejection c =
    let frame = frame-passed (goal.at.returns-clause-rejection c).In_ok-record in
    c.in_ok-screen_content.ensures ∙ sym (content_next _ frame) ∙ ap rejection c.in_ok-record.ensures.bytes
