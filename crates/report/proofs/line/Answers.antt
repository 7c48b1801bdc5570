use Rattle.std.proofs.Common.{arith}
use Rattle.report.specs.Line.{line}
use Rattle.report.specs.Told.{told_of}
use Rattle.words.proofs.LaidLaws.{laid_start}
use Rattle.report.proofs.line.Goals as goal

pub returns-in-Pass : goal.returns-in-Pass
unfolding line told_of
returns-in-Pass c =
    let l = laid_start c.lay.ensures (omega arith) in
    rw c.in-Pass.is record { value = l.0; out_after = l.1 }

pub returns-in-Refused : goal.returns-in-Refused
unfolding told_of
returns-in-Refused c =
    let l = c.refusal.ensures in
    rw c.in-Refused.is record { value = l.value; out_after = l.out_after }

pub returns-in-Break : goal.returns-in-Break
unfolding told_of
returns-in-Break c =
    let l = c.violation.ensures in
    rw c.in-Break.is record { value = l.value; out_after = l.out_after }
