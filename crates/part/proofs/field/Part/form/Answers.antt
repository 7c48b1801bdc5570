use Rattle.std.proofs.Common.{refl}
use Rattle.part.specs.Format.{form}
use Rattle.part.proofs.Fields.{form_small}
use Rattle.part.proofs.field.Part.form.Goals as goal

pub returns-clause-value : goal.returns-clause-value
unfolding form
returns-clause-value c = rw (c.choice.ensures, c.kind-kind.ensures, c.lead.ensures.value) refl

pub returns-clause-below_256 : goal.returns-clause-below_256
unfolding form
returns-clause-below_256 c =
    rw c.choice.ensures (form_small c.kind-kind.result c.lead.result c.lead.ensures.upper_bound)
