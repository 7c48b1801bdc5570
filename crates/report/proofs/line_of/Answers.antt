use Rattle.std.proofs.Common.{◌∙◌}
use Rattle.report.specs.Line.{line_of}
use Rattle.report.proofs.line_of.Goals as goal

pub returns : goal.returns
unfolding line_of
returns c =
    let told = c.from.ensures ∙ c.judge.ensures in
    record { value = rw told at c.line.ensures.value; out_after = rw told at c.line.ensures.out_after }
