use Rattle.std.proofs.Common.{◌≡◌, sym, ap, ◌∙◌, not, eq-eqb, eqb-true, ⊎_elim, arith, rules, tests}
use borrow.Author.Tests.{not-false}
use Rattle.part.specs.declared.format.Form.{Form}
use Rattle.part.specs.declared.format.Kind.TheVariants.{Several}
use Rattle.part.specs.Format.{several_kind}
use Rattle.part.specs.Record.{kind, observer, observers}
use Rattle.part.proofs.KindBytes.{kind_differs, kind_read}
use Rattle.bounded.proofs.Search.{true_not_false}
use Rattle.screening.specs.Rejections.{falls}
use Rattle.screening.proofs.Rejections.{long, header_read, framed_by, no_list, too_few, too_many, last_list_test}
use Rattle.screening.proofs.Rejections.{several_described}
use Rattle.screening.proofs.Tests.{any_in_range}
use Rattle.screening.proofs.rejection.mislisted.Goals as goal
use Rattle.screening.proofs.rejection.mislisted.Goals.{After-form-count, Else-ne}

-- the kind is 2
several : (c : Else-ne) → kind c.args.b.now ≡ several_kind
several c =
    let differs = kind_differs _ Several _ (c.ok.ensures.value ∙ kind_read _ c.try_from.result c.try_from.ensures) _ c.ne.ensures in
    sym c.kind.ensures ∙ eqb-true _ _ (not-false _ (sym differs ∙ c.if-ne.false))

-- it has so many observers
counted : (c : After-form-count) → c.form-count.result.observers ≡ observers c.args.b.now
counted c = ap (λ (f : Form). f.observers) c.form-count.ensures.value

pub kind-requires : goal.kind-requires
kind-requires c = long _ c.requires.long_enough

pub returns-then-ne : goal.returns-then-ne
returns-then-ne c =
    let differs = kind_differs _ Several _ (c.ok.ensures.value ∙ kind_read _ c.try_from.result c.try_from.ensures) _ c.ne.ensures in
    sym (no_list _ (λ q. true_not_false c.if-ne.true (differs ∙ ap not (eq-eqb _ _ (c.kind.ensures ∙ q)))))

pub form-count-requires : goal.form-count-requires
form-count-requires c = header_read _ c.requires.long_enough c.requires.length_right c.requires.in_range

pub returns-then-count-lt-LEAST_LISTED : goal.returns-then-count-lt-LEAST_LISTED
returns-then-count-lt-LEAST_LISTED c =
    let kind = several (goal.at.returns-then-count-lt-LEAST_LISTED c).Else-ne in
    let count = counted (goal.at.returns-then-count-lt-LEAST_LISTED c).After-form-count in
    sym (⊎_elim (λ l. too_few _ kind (omega arith)) (λ l. too_many _ kind (omega arith) (omega arith)) c.then-count-lt-LEAST_LISTED.either)

pub of-b-requires : goal.of-b-requires
of-b-requires c =
    let count = counted (goal.at.of-b-requires c).After-form-count in
    framed_by _ c.requires.long_enough c.requires.length_right c.requires.in_range c.requires.size_right
    (several_described _ (several (goal.at.of-b-requires c).Else-ne) (omega arith) (omega arith))

pub returns : goal.returns
returns c =
    let count = counted (goal.at.returns c).After-form-count in
    any_in_range (falls (observer c.args.b.now)) count _ _ c.any.result c.any.ensures.ran (λ x b q k. search (rules, tests))
    ∙ sym (last_list_test _ (several (goal.at.returns c).Else-ne) (omega arith) (omega arith))
