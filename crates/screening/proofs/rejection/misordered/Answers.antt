use Rattle.std.proofs.Common.{rules, tests}
use Rattle.screening.specs.Rejections.{misordered, misordered_at}
use Rattle.screening.proofs.Tests.{any_in_range}
use Rattle.screening.proofs.rejection.misordered.Goals as goal

pub returns : goal.returns
unfolding misordered
returns c = any_in_range (misordered_at c.args.b.bytes.now) c.events.ensures.value _ _ c.any.result c.any.ensures.ran (λ x b q k. search (rules, tests))
