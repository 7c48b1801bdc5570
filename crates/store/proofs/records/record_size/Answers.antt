use Rattle.std.proofs.Common.{sym, ◌∙◌, arith}
use Rattle.store.proofs.Fronts.{no_size-short, no_size-end, no_size-past, size-within}
use Rattle.store.proofs.records.record_size.Goals as goal
use Rattle.store.proofs.records.record_size.Goals.{then-s-lt-HEADER-via-then-s-lt-HEADER}
use Rattle.store.proofs.records.record_size.Goals.{then-s-lt-HEADER-via-else-s-lt-HEADER+then-is_end}

pub returns-then-s-lt-HEADER-clause-value : goal.returns-then-s-lt-HEADER-clause-value
returns-then-s-lt-HEADER-clause-value c =
    elim c.then-s-lt-HEADER.branch [
      | then-s-lt-HEADER-via-then-s-lt-HEADER w ↦ no_size-short _ (omega arith)
      | then-s-lt-HEADER-via-else-s-lt-HEADER+then-is_end w ↦ no_size-end _ (sym w.is_end.ensures ∙ w.if-is_end.true)
    ]

pub returns-then-s-size-clause-value : goal.returns-then-s-size-clause-value
returns-then-s-size-clause-value c =
    no_size-past _ (omega arith) (sym c.is_end.ensures ∙ c.if-is_end.false) c.number.ensures.value (omega arith)

pub returns-clause-value : goal.returns-clause-value
returns-clause-value c =
    size-within _ (omega arith) (sym c.is_end.ensures ∙ c.if-is_end.false) c.number.ensures.value (omega arith)
