use Rattle.std.proofs.Common.{ℕ, ap, ◌∙◌, not, ◌||◌, eqb}
use Rattle.std.specs.Prelude.{is_some}
use Rattle.part.specs.Format.{single_kind, several_kind, limited_kind}
use Rattle.part.proofs.KindBytes.{known, kind_read, err_unless_ok}
use Rattle.screening.specs.Rejections.{wrong_kind}
use Rattle.screening.proofs.Rejections.{long}
use Rattle.screening.proofs.rejection.wrong_kind.Goals as goal

pub kind-requires : goal.kind-requires
kind-requires c = long _ c.requires

pub returns : goal.returns
unfolding wrong_kind
returns c =
    let read = kind_read _ c.try_from.result c.try_from.ensures in
    c.is_err.ensures.value ∙ err_unless_ok c.try_from.result
    ∙ ap not (ap is_some read ∙ known c.kind.result)
    ∙ ap (λ (k : ℕ). not (eqb k single_kind || eqb k several_kind || eqb k limited_kind)) c.kind.ensures
