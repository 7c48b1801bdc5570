use Rattle.std.proofs.Common.{◌∙◌, sym, arith}
use borrow.Author.Tests.{lt-leb}
use Rattle.words.specs.Sets.{intersection}
use Rattle.level.proofs.Order.{rank_above, compared}
use Rattle.level.proofs.Level.at_or_below.Goals as goal

pub returns-then-rank : goal.returns-then-rank
unfolding intersection
returns-then-rank c =
    rw (c.compartments-own.ensures, c.compartments.ensures)
    (compared c.args.a c.args.b (omega (arith, c.rank.ensures, c.rank-2.ensures)))

pub returns-else-rank : goal.returns-else-rank
returns-else-rank c =
    let above = rank_above c.args.a c.args.b (omega (arith, c.rank.ensures, c.rank-2.ensures)) in
    lt-leb _ _ (omega arith) ∙ sym above
