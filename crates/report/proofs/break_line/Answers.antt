use Rattle.std.proofs.Common.{ℕ, rules, arith}
use Rattle.words.proofs.LaidLaws.{laid_start}
use Rattle.report.proofs.Laying.{laid_violation}
use Rattle.report.proofs.break_line.Goals as goal

pub returns : goal.returns
returns c =
    let start = rw (c.over-line.ensures.out, c.over-line.ensures.at) at c.labelled.ensures.laid in
    let line = λ (l : ℕ). laid_start
    (laid_violation
    (record { level = l; rule = c.args.rule; event = c.args.event; s = c.args.s; t = c.args.t; u = c.args.u })
    start
    c.labelled-2.ensures.laid
    c.labelled-3.ensures.laid
    c.labelled-4.ensures.laid
    c.labelled-5.ensures.laid
    c.word.ensures.laid)
    (omega arith) in
    record { value = λ l. (line l).0; out_after = λ l. let after = (line l).1 in search (rules, after) }
