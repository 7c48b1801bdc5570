use Rattle.relations.proofs.Concerned.{mark_in}
use Rattle.relations.proofs.event.mark.Goals as goal

pub returns-then-test : goal.returns-then-test
returns-then-test c = rw (c.union.ensures, c.single.ensures) (mark_in _ _ _ c.if-test.true)
