use Rattle.std.proofs.Common.{refl}
use Rattle.part.specs.Format.{form}
use Rattle.part.specs.declared.format.Kind.TheVariants.{Several, Limited}
use Rattle.part.proofs.KindBytes.{kind_equals}
use Rattle.part.proofs.format.Form.of.Goals as goal

pub returns : goal.returns
unfolding form
returns c k e =
    rw (c.choice.ensures, kind_equals k Several _ e _ c.eq.ensures, kind_equals k Limited _ e _ c.eq-2.ensures) refl
