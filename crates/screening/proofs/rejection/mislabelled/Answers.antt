use Rattle.std.proofs.Common.{sym, ◌∙◌, rules, tests}
use Rattle.bounded.proofs.Search.{or_now, or-then}
use Rattle.screening.specs.Rejections.{mislabelled_part, mislabelled_observer, mislabelled_at}
use Rattle.screening.proofs.Tests.{any_in_range}
use Rattle.screening.proofs.rejection.mislabelled.Goals as goal

pub returns-then-any : goal.returns-then-any
unfolding mislabelled_part mislabelled_observer
returns-then-any c =
    let test = any_in_range (mislabelled_observer c.args.b.bytes.now) c.observers.ensures _ _ c.any.result c.any.ensures.ran (λ x b q k. search (rules, tests)) in
    c.if-any.true ∙ sym (or_now _ _ (sym test ∙ c.if-any.true))

pub returns-else-any : goal.returns-else-any
unfolding mislabelled_part mislabelled_observer mislabelled_at
returns-else-any c =
    let test = any_in_range (mislabelled_observer c.args.b.bytes.now) c.observers.ensures _ _ c.any.result c.any.ensures.ran (λ x b q k. search (rules, tests)) in
    let last = any_in_range (mislabelled_at c.args.b.bytes.now) c.events.ensures.value _ _ c.any-else-any.result c.any-else-any.ensures.ran (λ x b q k. search (rules, tests)) in
    last ∙ sym (or-then _ _ (sym test ∙ c.if-any.false))
