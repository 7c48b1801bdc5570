use Rattle.std.proofs.Common.{sym, ap, ◌∙◌, not, eq-eqb, ne_eqb}
use Rattle.bounded.proofs.Search.{and_now, and_never}
use Rattle.partition.specs.Classes.{same_class}
use Rattle.restrictive.proofs.naming.Judged.is_unanswered.Goals as goal

pub returns-then-self-u : goal.returns-then-self-u
unfolding same_class
returns-then-self-u c = ap not c.contains.ensures ∙ sym (and_now _ _ (eq-eqb _ _ c.if-self-u.true))

pub returns-else-self-u : goal.returns-else-self-u
unfolding same_class
returns-else-self-u c = ne_eqb _ _ c.if-self-u.false ∙ sym (and_never _ _ (ne_eqb _ _ c.if-self-u.false))
