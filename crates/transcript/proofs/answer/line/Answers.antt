use Rattle.report.specs.Line.{line}
use Rattle.transcript.specs.Lines.{answer_line}
use Rattle.transcript.specs.Told.{told_of}
use Rattle.transcript.proofs.answer.line.Goals as goal

pub returns-in-Gives : goal.returns-in-Gives
unfolding answer_line told_of
returns-in-Gives c =
    let l = c.numbered.ensures in
    rw c.in-Gives.is record { value = l.value; out_after = l.out_after }

pub returns-in-Refused : goal.returns-in-Refused
unfolding answer_line line told_of
returns-in-Refused c =
    let l = c.numbered-in-Refused.ensures in
    rw c.in-Refused.is record { value = l.value; out_after = l.out_after }

pub returns-in-Clash : goal.returns-in-Clash
unfolding answer_line told_of
returns-in-Clash c =
    let l = c.numbered-in-Clash.ensures in
    rw c.in-Clash.is record { value = l.value; out_after = l.out_after }

pub returns-in-Breaks : goal.returns-in-Breaks
unfolding answer_line told_of
returns-in-Breaks c =
    let l = c.violation.ensures in
    rw c.in-Breaks.is record { value = l.value; out_after = l.out_after }
