use Rattle.std.proofs.Common.{sym, ◌∙◌, rules, tests, ne_eqb}
use Rattle.screening.proofs.Tests.{any_in_range}
use Rattle.composite.specs.Joining.{levels_differ}
use Rattle.composite.proofs.Obstacles.{uneven, as_long}
use Rattle.composite.proofs.obstacle.observers_differ.Goals as goal

pub returns-then-count-observers : goal.returns-then-count-observers
returns-then-count-observers c =
    rw (ne_eqb _ _ c.if-count-observers.true)
    (sym (uneven _ _ c.observers-count.ensures c.observers.ensures c.if-count-observers.true))

pub returns-else-count-observers : goal.returns-else-count-observers
unfolding levels_differ
returns-else-count-observers c =
    any_in_range (levels_differ c.args.a.bytes.now c.args.b.bytes.now) c.observers-count.ensures _ _ c.any.result
    c.any.ensures.ran (λ x b q k. search (rules, tests))
    ∙ as_long _ _ c.observers-count.ensures c.observers.ensures c.if-count-observers.false
