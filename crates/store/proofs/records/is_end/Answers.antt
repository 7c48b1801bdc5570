use Rattle.std.proofs.Common.{sym, ◌∙◌}
use borrow.Author.Tests.{lt-leb}
use Rattle.store.proofs.Fronts.{no_end-short, no_end-kind, end_by_body}
use Rattle.store.proofs.records.is_end.Goals as goal
use Rattle.store.proofs.records.is_end.Goals.{then-s-ge-HEADER, else-s-ge-HEADER}

pub returns-then-number-eq0 : goal.returns-then-number-eq0
returns-then-number-eq0 c =
    elim c.if-s-ge-HEADER.branch [
      | then-s-ge-HEADER w ↦
          end_by_body _ w.if-s-ge-HEADER.true w.number.ensures.value (sym w.value-is ∙ c.if-number-eq0.true)
          c.number-then-number-eq0.ensures.value
      | else-s-ge-HEADER w ↦
          let short = lt-leb _ _ w.if-s-ge-HEADER.false in
          let is = w.value-is in
          let so = c.if-number-eq0.true in
          absurd (cc)
    ]

pub returns-else-number-eq0 : goal.returns-else-number-eq0
returns-else-number-eq0 c =
    elim c.if-s-ge-HEADER.branch [
      | then-s-ge-HEADER w ↦
          c.if-number-eq0.false
          ∙ no_end-kind _ w.if-s-ge-HEADER.true w.number.ensures.value (sym w.value-is ∙ c.if-number-eq0.false)
      | else-s-ge-HEADER w ↦ c.if-number-eq0.false ∙ no_end-short _ w.if-s-ge-HEADER.false
    ]
