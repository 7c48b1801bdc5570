use Rattle.report.specs.Told.{numbers_of}
use Rattle.report.proofs.violation.Goals as goal

pub returns : goal.returns
unfolding numbers_of
returns c =
    let l = c.break_line.ensures in
    record { value = l.value c.args.n.level; out_after = l.out_after c.args.n.level }
