use Rattle.std.proofs.Common.{◌≡◌, sym, ap, ◌∙◌, false, not, eq-eqb, eqb-true, arith}
use borrow.Author.Tests.{not-false}
use Rattle.bounded.proofs.Search.{any_none, true_not_false}
use Rattle.part.specs.declared.format.Kind.TheVariants.{Limited}
use Rattle.part.specs.Format.{limited_kind}
use Rattle.part.specs.Record.{kind, column, fine_column}
use Rattle.part.proofs.Fields.{own_column, own_fine_column, column-size}
use Rattle.part.proofs.KindBytes.{kind_differs}
use Rattle.screening.specs.Rejections.{unnumbered, misnumbered, misnumbered_at}
use Rattle.screening.proofs.Rejections.{no-fine, fine-unnumbered, last-fine_test}
use Rattle.screening.proofs.Numbered.{partition}
use Rattle.screening.proofs.rejection.misrefined.Goals as goal
use Rattle.screening.proofs.rejection.misrefined.Goals.{After-class_column, Else-ne, Else-unnumbered}

-- the kind is 3
limited : (c : Else-ne) → kind c.args.b.bytes.now ≡ limited_kind
limited c = eqb-true _ _ (not-false _ (sym (kind_differs _ Limited _ c.kind.ensures _ c.ne.ensures) ∙ c.if-ne.false))

-- the fine column is numbered
numbered : (c : Else-unnumbered) → unnumbered (fine_column c.args.b.bytes.now 0) ≡ false
numbered c = sym (c.unnumbered.ensures ∙ ap unnumbered c.fine_column-fine.ensures) ∙ c.if-unnumbered.false

first-numbered : (c : After-class_column) → unnumbered (column c.args.b.bytes.now 0) ≡ false
unfolding misnumbered misnumbered_at
first-numbered c = any_none _ _ c.requires 0 c.args.b.framed.some_observer

pub returns-then-ne : goal.returns-then-ne
returns-then-ne c =
    let differs = kind_differs _ Limited _ c.kind.ensures _ c.ne.ensures in
    sym (no-fine _ (λ q. true_not_false c.if-ne.true (differs ∙ ap not (eq-eqb _ _ q))))

pub returns-then-unnumbered : goal.returns-then-unnumbered
returns-then-unnumbered c =
    let fine = c.fine_column-fine.ensures in
    c.if-unnumbered.true ∙ sym (fine-unnumbered _ (limited (goal.at.returns-then-unnumbered c).Else-ne)
    (sym (c.unnumbered.ensures ∙ ap unnumbered fine) ∙ c.if-unnumbered.true))

pub of-requires-clause-partition : goal.of-requires-clause-partition
of-requires-clause-partition c =
    let framed = c.args.b.framed in
    let first = column-size _ 0 framed (own_column _ 0 framed.some_observer) in
    let fine = column-size _ _ framed (own_fine_column _ 0 framed.some_observer) in
    rw c.class_column.ensures (partition _ (first-numbered c) (omega (arith, framed.few.most_states)))

pub of-requires-clause-fine_partition : goal.of-requires-clause-fine_partition
of-requires-clause-fine_partition c =
    let framed = c.args.b.framed in
    let first = column-size _ 0 framed (own_column _ 0 framed.some_observer) in
    let fine = column-size _ _ framed (own_fine_column _ 0 framed.some_observer) in
    rw c.fine_column-fine.ensures (partition _ (numbered (goal.at.of-requires-clause-fine_partition c).Else-unnumbered) (omega (arith, framed.few.most_states)))

pub of-requires-clause-fine_len : goal.of-requires-clause-fine_len
of-requires-clause-fine_len c =
    let framed = c.args.b.framed in
    let first = column-size _ 0 framed (own_column _ 0 framed.some_observer) in
    let fine = column-size _ _ framed (own_fine_column _ 0 framed.some_observer) in
    simp (c.class_column.ensures, c.fine_column-fine.ensures) (fine ∙ sym first)

pub returns-else-unnumbered : goal.returns-else-unnumbered
returns-else-unnumbered c =
    let framed = c.args.b.framed in
    let first = column-size _ 0 framed (own_column _ 0 framed.some_observer) in
    c.crosses.ensures
    ∙ rw (c.of.ensures.column, c.of.ensures.fine, c.class_column.ensures, c.fine_column-fine.ensures, first)
    (sym (last-fine_test _ (limited (goal.at.returns-else-unnumbered c).Else-ne) (numbered (goal.at.returns-else-unnumbered c).Else-unnumbered)))
