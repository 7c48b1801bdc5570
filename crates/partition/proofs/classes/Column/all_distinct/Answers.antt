use Rattle.std.proofs.Common.{refl, sym, ap, ◌∙◌, arith}
use Rattle.bounded.proofs.Search.{true_not_false}
use Rattle.words.specs.Sets.{union}
use Rattle.partition.proofs.ClassSeen.{apart_none, apart_more, apart-all, not_distinct}
use Rattle.partition.proofs.classes.Column.all_distinct.Goals as goal

pub loop-class-init : goal.loop-class-init
loop-class-init c = apart_none _

pub returns-then-contains : goal.returns-then-contains
returns-then-contains c = (
  λ e. absurd (true_not_false e refl),
  λ distinct.
      absurd (not_distinct _ _ _ _ _ c.loop-class-test.true c.from-c.ensures
      (sym c.contains.ensures ∙ c.if-contains.true) c.loop-class.invariant.seen distinct),
)

pub loop-class-preserved : goal.loop-class-preserved
loop-class-preserved c =
    apart_more _ _ _ _ _ c.from-c.ensures
    (sym c.contains.ensures ∙ c.if-contains.false)
    (c.union-seen.ensures ∙ ap (union _) c.single.ensures) c.loop-class.invariant

pub returns : goal.returns
returns c = (λ e. apart-all _ _ _ _ (omega arith) c.loop-class.invariant, λ distinct. refl)
