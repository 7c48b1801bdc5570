use Rattle.std.proofs.Common.{sym, ap, ◌∙◌, ltb}
use Rattle.part.specs.Format.{max_event_kind}
use Rattle.screening.specs.Rejections.{unknown_at, misordered_at}
use Rattle.bounded.proofs.Search.{or_now, or-then}
use Rattle.screening.proofs.rejection.misordered_at.Goals as goal

pub returns-then-identifier_falls : goal.returns-then-identifier_falls
unfolding misordered_at
returns-then-identifier_falls c = c.if-identifier_falls.true ∙ sym (or_now _ _ (sym c.identifier_falls.ensures ∙ c.if-identifier_falls.true))

pub returns-else-identifier_falls : goal.returns-else-identifier_falls
unfolding misordered_at unknown_at
returns-else-identifier_falls c =
    ap (ltb max_event_kind) c.kind_byte.ensures
    ∙ sym (or-then _ _ (sym c.identifier_falls.ensures ∙ c.if-identifier_falls.false))
