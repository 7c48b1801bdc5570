use Rattle.std.proofs.Common.{arith}
use Rattle.std.proofs.lemmas.Bool.Decides.{nat_tests}
use Rattle.part.proofs.field.classes_with.Goals as goal

pub returns : goal.returns
returns c = let m = c.max.ensures in grind (arith, nat_tests)
