use Rattle.std.proofs.Common.{rules, tests}
use Rattle.screening.specs.Rejections.{misnumbered, misnumbered_at}
use Rattle.screening.proofs.Tests.{any_in_range}
use Rattle.screening.proofs.rejection.misnumbered.Goals as goal

pub returns : goal.returns
unfolding misnumbered misnumbered_at
returns c = any_in_range (misnumbered_at c.args.b.bytes.now) c.observers.ensures _ _ c.any.result c.any.ensures.ran (λ x b q k. search (rules, tests))
