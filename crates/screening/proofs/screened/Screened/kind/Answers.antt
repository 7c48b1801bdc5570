use Rattle.std.proofs.Common.{sym, ap, ◌∙◌}
use Rattle.std.specs.Prelude.{is_some}
use borrow.Author.Tests.{not-false}
use Rattle.part.proofs.KindBytes.{known, number-back}
use Rattle.screening.specs.Rejections.{wrong_kind}
use Rattle.screening.proofs.Accepted.{in_frame, not-wrong_kind}
use Rattle.screening.proofs.screened.Screened.kind.Goals as goal

pub unwrap-requires : goal.unwrap-requires
unfolding wrong_kind
unwrap-requires c =
    ap is_some c.kind.ensures ∙ known _ ∙ not-false _ (not-wrong_kind _ (in_frame _ c.args.self.accepted))

pub returns : goal.returns
returns c = sym (number-back _ _ (sym c.kind.ensures ∙ c.unwrap.ensures))
