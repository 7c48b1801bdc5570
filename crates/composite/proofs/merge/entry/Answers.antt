use Rattle.std.proofs.Common.{ap, arith, length}
use Rattle.part.specs.Record.{entry_at}
use Rattle.composite.proofs.EntryWalk.{entry-inside}
use Rattle.composite.proofs.merge.entry.Goals as goal

pub overflow_add-result : goal.overflow_add-result
unfolding entry_at
overflow_add-result c = omega arith

pub slice_bounds-result-end : goal.slice_bounds-result-end
slice_bounds-result-end c =
    omega (arith, c.entry-at.ensures, ap length c.bytes.ensures, entry-inside _ c.args.b.framed _ c.requires)
