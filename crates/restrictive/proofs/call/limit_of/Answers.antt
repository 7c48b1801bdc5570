use Rattle.std.proofs.Common.{Some, ◌≡◌, refl, sym, ap, ◌∙◌}
use Rattle.bounded.proofs.Search.{true_not_false}
use Rattle.part.specs.declared.format.Kind.TheVariants.{Limited}
use Rattle.part.specs.Kinds.{kind_with}
use Rattle.restrictive.specs.Verdict.{limit}
use Rattle.restrictive.proofs.Verdicts.{ready, one_limit}
use Rattle.restrictive.proofs.call.limit_of.Goals as goal

pub returns : goal.returns
unfolding limit
returns c =
    let sound = ready _ 0 c.args.accepted.accepted c.args.accepted.record.framed.some_observer in
    c.limit.ensures ∙ rw (c.columns.ensures.fine, c.columns.ensures.column, sound.sized) refl

pub returns-then-ne : goal.returns-then-ne
unfolding kind_with
returns-then-ne c =
    sym (one_limit _ c.args.accepted.accepted (λ q.
    let limited : c.kind.result ≡ Some Limited = c.kind.ensures ∙ ap kind_with q in
    true_not_false refl (rw limited at c.if-ne.ensures)))
