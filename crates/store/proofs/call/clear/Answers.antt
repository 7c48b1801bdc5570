use Rattle.std.proofs.Common.{refl, arith}
use Rattle.store.proofs.Appends.{clear_whole}
use Rattle.store.proofs.call.clear.Goals as goal

pub returns-clause-result_value : goal.returns-clause-result_value
returns-clause-result_value c =
    simp (clear_whole c.args.s.now (omega arith)) (refl)

pub returns-clause-s_after : goal.returns-clause-s_after
returns-clause-s_after c =
    simp (clear_whole c.args.s.now (omega arith)) (c.put_end.ensures)
