use Rattle.std.proofs.Common.{◌≡◌, refl, sym, ap, ◌∙◌, arith}
use mathlib.Core.Option.{some}
use Rattle.bounded.specs.Search.{first}
use Rattle.bounded.proofs.Search.{first_hit, first_more, first_done}
use Rattle.relations.specs.Relations.{rule_at}
use Rattle.relations.specs.Sets.{place_of}
use Rattle.restrictive.specs.Found.{found_of}
use Rattle.restrictive.specs.Searched.{observer_in}
use Rattle.restrictive.specs.Tests.{broken}
use Rattle.restrictive.proofs.Offers.{place_below, broken_by_set, beside-fine, violated, not_violated}
use Rattle.restrictive.proofs.naming.Judged.first_unanswered.Goals as goal
use Rattle.restrictive.proofs.naming.Judged.first_unanswered.Goals.{After-is_unanswered}

-- the test of the code is the rule's
tested : (c : After-is_unanswered) → let j = c.args.self.now in let o = observer_in j.search in
    broken j.search.b.bytes.now o (rule_at (place_of j.case.rule)) j.case.event c.args.s c.args.t c.loop-u.u
    ≡ c.is_unanswered.result
tested c =
    let j = c.args.self.now in
    let below = place_below j.case.rule in
    broken_by_set _ _ _ _ _ _ _ j.offers.now c.requires.le_rule below
    c.requires.asked (j.judgeable.offering c.requires.le_rule) (omega (arith, j.search.sound.sized))
    ∙ rw (beside-fine _ _ _ _ c.requires.le_rule below j.judgeable.taken) (sym c.is_unanswered.ensures)

pub loop-u-init : goal.loop-u-init
unfolding first
loop-u-init c = refl

pub returns-then-is_unanswered : goal.returns-then-is_unanswered
unfolding found_of
returns-then-is_unanswered c =
    ap some c.violation.ensures
    ∙ sym (first_hit _ _ _ _ (omega (arith, c.args.self.now.search.sound.sized)) c.loop-u.invariant
    (violated _ _ _ _ _ _ _ (tested (goal.at.returns-then-is_unanswered c).After-is_unanswered ∙ c.if-is_unanswered.true)))

pub loop-u-preserved : goal.loop-u-preserved
loop-u-preserved c =
    first_more _ _ c.loop-u.invariant
    (not_violated _ _ _ _ _ _ _ (tested (goal.at.loop-u-preserved c).After-is_unanswered ∙ c.if-is_unanswered.false))

pub returns : goal.returns
unfolding found_of
returns c = sym (first_done _ _ _ (omega (arith, c.args.self.now.search.sound.sized)) c.loop-u.invariant)
