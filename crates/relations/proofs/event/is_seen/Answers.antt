use Rattle.std.proofs.Common.{sym, ap, ◌∙◌}
use Rattle.level.specs.Level.{low}
use Rattle.part.specs.Kinds.{machine_kind}
use Rattle.relations.proofs.Roles.{internal-unseen, seen_by_level}
use Rattle.relations.proofs.event.is_seen.Goals as goal

pub returns-in-Internal : goal.returns-in-Internal
returns-in-Internal c = sym (internal-unseen _ _ _ (ap machine_kind (sym c.in-Internal.is) ∙ c.event_kind.ensures))

pub returns-in-Input : goal.returns-in-Input
returns-in-Input c =
    c.is_low.ensures ∙ ap (low _) c.level.ensures ∙ sym (seen_by_level _ _ _ _ c.event_kind.ensures c.in-Input.is)
