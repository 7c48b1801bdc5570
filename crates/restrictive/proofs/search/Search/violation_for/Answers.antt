use Rattle.std.proofs.Common.{◌≡◌, refl, sym, ◌∙◌, arith}
use mathlib.Core.Option.{none}
use Rattle.std.proofs.lemmas.Result.{err_from_is_err_and}
use Rattle.bounded.specs.Search.{first}
use Rattle.part.specs.Record.{events}
use Rattle.relations.proofs.SilentReach.{closure_total, sizes_alone, concerned-none}
use Rattle.restrictive.specs.Searched.{observer_in, rule_found}
use Rattle.restrictive.proofs.Sameness.{no-events, distinct_rules}
use Rattle.restrictive.proofs.Scans.{first_start, nothing-more}
use Rattle.restrictive.proofs.Taken.{finds_early, finds_none}
use Rattle.restrictive.proofs.search.Search.violation_for.Goals as goal
use Rattle.restrictive.proofs.search.Search.violation_for.Goals.{In_ok-rule_1, In_ok-rule_2}

one : (c : In_ok-rule_1) → first 1 (rule_found c.args.self.now) ≡ none
one c = nothing-more _ 0 _ c.in_ok-rule_1.ensures (first_start _) refl

two : (c : In_ok-rule_2) → first 2 (rule_found c.args.self.now) ≡ none
two c = nothing-more _ 1 _ c.in_ok-rule_2.ensures (nothing-more _ 0 _ c.in_ok-rule_1.ensures (first_start _) refl) refl

pub returns-then-events-eq0 : goal.returns-then-events-eq0
returns-then-events-eq0 c =
    let none_there : events c.args.self.now.b.bytes.now ≡ 0 = let m = c.events.ensures.value in omega arith in
    finds_none _ _ (no-events _ (observer_in c.args.self.now) none_there)
    (c.args.self.now.sound.sized ∙ sym (sizes_alone _ 0 refl) ∙ closure_total _ _ _ (concerned-none _ _ _ none_there))

pub returns-in_err-rule_1 : goal.returns-in_err-rule_1
returns-in_err-rule_1 c =
    let p = err_from_is_err_and c.from_residual.result c.from_residual.ensures.1 in
    rw (p.1, p.2) (finds_early _ _ 0 (omega arith) c.in_err-rule_1.ensures (first_start _))

pub returns-in_err-rule_2 : goal.returns-in_err-rule_2
returns-in_err-rule_2 c =
    let p = err_from_is_err_and c.from_residual-in_err-rule_2.result c.from_residual-in_err-rule_2.ensures.1 in
    rw (p.1, p.2) (finds_early _ _ 1 (omega arith) c.in_err-rule_2.ensures (one (goal.at.returns-in_err-rule_2 c).In_ok-rule_1))

pub returns-then-all_distinct : goal.returns-then-all_distinct
returns-then-all_distinct c =
    let sound = c.args.self.now.sound in
    finds_none _ _
    (distinct_rules _ _ (two (goal.at.returns-then-all_distinct c).In_ok-rule_2) sound.inside
    (rw sound.sized at (c.all_distinct.ensures.0 c.if-all_distinct.true)))
    (c.closure_sizes.ensures ∙ closure_total _ _ _ c.of-roles.ensures.silent_events)

pub returns-in_err-rule_3 : goal.returns-in_err-rule_3
returns-in_err-rule_3 c =
    let p = err_from_is_err_and c.from_residual-in_err-rule_3.result c.from_residual-in_err-rule_3.ensures.1 in
    rw (p.1, p.2) (finds_early _ _ 2 (omega arith) c.in_err-rule_3.ensures (two (goal.at.returns-in_err-rule_3 c).In_ok-rule_2))

pub rules_from_4-requires-clause-earlier_rules_hold : goal.rules_from_4-requires-clause-earlier_rules_hold
rules_from_4-requires-clause-earlier_rules_hold c =
    nothing-more _ 2 _ c.in_ok-rule_3.ensures (two (goal.at.rules_from_4-requires-clause-earlier_rules_hold c).In_ok-rule_2) refl
