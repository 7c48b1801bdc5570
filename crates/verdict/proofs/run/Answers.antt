use Rattle.verdict.proofs.LineLaws.{judged_whole}
use Rattle.verdict.proofs.run.Goals as goal

pub returns-clause-written : goal.returns-clause-written
returns-clause-written g c = judged_whole c.judge.result _ _ _ c.judge.ensures.written
