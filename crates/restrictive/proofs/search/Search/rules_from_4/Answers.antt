use Rattle.std.proofs.Common.{sym, ◌∙◌, arith}
use Rattle.bounded.proofs.Search.{first_more}
use Rattle.relations.proofs.SilentReach.{closure_reach, closure_total, sizes_alone}
use Rattle.restrictive.specs.Verdict.{violation_for}
use Rattle.restrictive.proofs.OfferArrays.{direct_alone}
use Rattle.restrictive.proofs.Sameness.{unspoken}
use Rattle.restrictive.proofs.Scans.{found-last}
use Rattle.restrictive.proofs.Taken.{finds_late}
use Rattle.restrictive.proofs.search.Search.rules_from_4.Goals as goal

-- ---- without silent events
pub by_event-found-requires-clause-offered_directly : goal.by_event-found-requires-clause-offered_directly
by_event-found-requires-clause-offered_directly c =
    let sound = c.args.self.now.sound in
    direct_alone _ _ _ sound.framed sound.within _
    c.requires.roles.silent_events c.if-roles-eq0.true c.args.labels.now c.requires.class_of

pub returns-then-roles-eq0 : goal.returns-then-roles-eq0
unfolding violation_for
returns-then-roles-eq0 c =
    let of = c.requires.roles.silent_events in
    let four = unspoken _ _ _ _ (omega arith) of c.if-roles-eq0.true in
    finds_late _ _ _ _ _ c.requires.earlier_rules_hold
    (found-last _ 4 _ c.by_event-found.ensures (first_more _ 3 c.requires.earlier_rules_hold four))
    c.counted.ensures.found c.counted.ensures.taken
    (c.args.self.now.sound.sized ∙ sym (sizes_alone _ _ c.if-roles-eq0.true) ∙ closure_total _ _ _ of)

pub with_closures-requires-clause-rows : goal.with_closures-requires-clause-rows
with_closures-requires-clause-rows c =
    closure_reach _ _ _ c.requires.roles.silent_events c.closures-closure.result.sets
    c.closures-closure.ensures.sets.words

pub returns : goal.returns
returns c =
    finds_late _ _ _ _ _ c.requires.earlier_rules_hold c.with_closures.ensures
    c.counted-2.ensures.found c.counted-2.ensures.taken
    (c.closures-closure.ensures.sizes ∙ closure_total _ _ _ c.requires.roles.silent_events)
