use Rattle.std.proofs.Common.{◌∙◌}
use Rattle.store.proofs.Readings.{count-some, count_none}
use Rattle.store.proofs.Told.{told}
use Rattle.store.proofs.reading.count.Goals as goal

pub returns-in_err-end : goal.returns-in_err-end
returns-in_err-end c = told c.from_residual.result _ c.from_residual.ensures.1 ∙ count_none _ c.in_err-end.ensures

pub returns : goal.returns
returns c = count-some _ _ _ c.in_ok-end.ensures
