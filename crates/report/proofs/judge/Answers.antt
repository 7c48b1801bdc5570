use Rattle.std.proofs.Common.{ap, ◌∙◌}
use Rattle.std.proofs.lemmas.List.{take_min}
use Rattle.restrictive.specs.Verdict.{verdict}
use Rattle.report.specs.Line.{judged_bytes}
use Rattle.report.proofs.judge.Goals as goal

pub returns : goal.returns
returns c = (rw c.min.ensures at c.check.ensures.verdict) ∙ ap verdict (take_min judged_bytes c.args.input.now)
