use Rattle.std.proofs.Common.{◌<◌, ◌+◌, get_or-set_same, refl, sym, ap, ◌∙◌, arith}
use Rattle.bounded.proofs.Search.{true_not_false}
use Rattle.words.specs.LittleEndian.{byte}
use Rattle.words.specs.Sets.{union}
use Rattle.partition.proofs.ClassSeen.{Seen, seen_none, seen_kept, seen_more, Firsts, firsts_none, firsts_put}
use Rattle.partition.proofs.ClassSeen.{firsts_more, firsts_equal, firsts_differ}
use Rattle.partition.proofs.classes.Column.classwise_equal.Goals as goal
use Rattle.partition.proofs.classes.Column.classwise_equal.Goals.{After-from-c, Joined-not-contains, else-not-contains, then-not-contains}

-- The class of a state is below 64.
small : (c : After-from-c) → c.from-c.result < 64
small c =
    omega (arith, c.args.self.partition.below c.loop-s.s (omega arith))

-- Where the arms of the first test meet, the class of the state has been seen.
ready : (c : Joined-not-contains)
    → let args = c.args in
    let s = c.loop-s.s in
    Seen (byte args.self.classes.now) (s + 1) c.if-not-contains.seen × Firsts (byte args.self.classes.now) args.words.now s
    c.if-not-contains.first
ready c =
    let words = c.args.words.now in
    let of-class = c.from-c.ensures in
    let (seen, firsts) = c.loop-s.invariant in
    let has = sym c.contains.ensures in
    elim c.if-not-contains.branch [
      | then-not-contains w ↦ (
        seen_more _ _ _ _ _ of-class (w.seen-is ∙ w.union-seen.ensures ∙ ap (union _) w.single.ensures) seen,
        rw w.first-is (firsts_put _ words _ _ _ _ _ (omega (arith, c.args.self.partition.below c.loop-s.s (omega arith))) (has ∙ w.if-not-contains.true) seen firsts),
      )
      | else-not-contains w ↦ (rw w.seen-is (seen_kept _ _ _ _ of-class (has ∙ w.if-not-contains.false) seen), rw w.first-is firsts)
    ]

pub loop-s-init : goal.loop-s-init
loop-s-init c =
    (seen_none _, firsts_none _ c.args.words.now _ c.told-first)

pub returns-then-first-c : goal.returns-then-first-c
returns-then-first-c c =
    let words = c.args.words.now in (
      λ e. absurd (true_not_false e refl),
      λ equal.
          absurd (elim c.if-not-contains.branch [
            | then-not-contains w ↦ c.if-first-c.true
                (rw w.first-is
                (get_or-set_same c.loop-s.first c.from-c.result _ 0
                (omega (arith, small (goal.at.returns-then-first-c c).After-from-c, c.loop-s.invariant.1.size))))
            | else-not-contains w ↦ firsts_differ _ words _ _ _ _ _ (omega arith) c.from-c.ensures
                (small (goal.at.returns-then-first-c c).After-from-c)
                (sym c.contains.ensures ∙ w.if-not-contains.false) c.loop-s.invariant.0 c.loop-s.invariant.1
                (λ q. c.if-first-c.true (rw w.first-is q)) equal
          ]),
    )

pub loop-s-preserved : goal.loop-s-preserved
loop-s-preserved c =
    let words = c.args.words.now in (
      (ready (goal.at.loop-s-preserved c).Joined-not-contains).0,
      firsts_more _ words _ _ _ c.from-c.ensures c.if-first-c.false
          (ready (goal.at.loop-s-preserved c).Joined-not-contains).1,
    )

pub returns : goal.returns
returns c = (
  λ e. firsts_equal _ c.args.words.now _ _ _ (omega arith) c.args.self.partition.below c.loop-s.invariant.1,
  λ equal. refl,
)
