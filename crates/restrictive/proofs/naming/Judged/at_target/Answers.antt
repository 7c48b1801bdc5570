use Rattle.std.proofs.Common.{◌≡◌, sym, ap, ◌∙◌, true}
use mathlib.Core.Option.{some}
use borrow.Author.Tests.{not-true, not-false}
use Rattle.relations.specs.Relations.{leads}
use Rattle.relations.specs.Sets.{place_of}
use Rattle.restrictive.specs.Found.{found_of}
use Rattle.restrictive.proofs.Offers.{no_step, permitted_step, leaving, after_high}
use Rattle.restrictive.proofs.naming.Judged.at_target.Goals as goal
use Rattle.restrictive.proofs.naming.Judged.at_target.Goals.{Else-not-contains}

-- the event leads from s to t
led : (c : Else-not-contains) → let j = c.args.self.now in
    leads j.search.b.bytes.now j.case.event c.args.s c.args.t ≡ true
unfolding leads
led c = rw c.row.ensures at (sym c.contains.ensures ∙ not-false _ c.if-not-contains.false-raw)

pub returns-then-not-contains : goal.returns-then-not-contains
unfolding found_of leads
returns-then-not-contains c =
    sym (no_step _ _ _ _ _ _ _ c.args.self.now.judgeable _ _
    (rw c.row.ensures at (sym c.contains.ensures ∙ not-true _ c.if-not-contains.true-raw)))

pub returns-then-contains : goal.returns-then-contains
unfolding found_of
returns-then-contains c =
    sym (permitted_step _ _ _ _ _ _ _ c.args.self.now.judgeable _ _
    c.requires.0 c.requires.1 (led (goal.at.returns-then-contains c).Else-not-contains) (sym c.contains-2.ensures ∙ c.if-contains.true))

pub returns-in-HighInputs : goal.returns-in-HighInputs
unfolding found_of
returns-in-HighInputs c =
    let j = c.args.self.now in
    ap some c.violation.ensures
    ∙ sym (leaving _ _ _ _ _ _ _ j.judgeable
    (ap place_of c.in-HighInputs.is) j.search.sound.framed.one_state _ _ c.requires.0 c.requires.1
    (led (goal.at.returns-in-HighInputs c).Else-not-contains)
    (sym c.contains-2.ensures ∙ c.if-contains.false))

pub first_unanswered-requires-clause-le_rule : goal.first_unanswered-requires-clause-le_rule
first_unanswered-requires-clause-le_rule c = after_high _ c.args.self.now.judgeable.later c.in_default.not-HighInputs

pub first_unanswered-requires-clause-asked : goal.first_unanswered-requires-clause-asked
first_unanswered-requires-clause-asked c =
    (c.args.self.now.judgeable.speaks, led (goal.at.first_unanswered-requires-clause-asked c).Else-not-contains)
