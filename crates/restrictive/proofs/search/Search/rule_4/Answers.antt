use Rattle.std.proofs.Common.{sym, arith}
use Rattle.relations.specs.Relations.{rule_at}
use Rattle.restrictive.specs.Found.{found_of}
use Rattle.restrictive.specs.Searched.{observer_in}
use Rattle.restrictive.proofs.OfferArrays.{reached_offers, offered_permitted}
use Rattle.restrictive.proofs.Sameness.{equal-none, rule-none}
use Rattle.restrictive.proofs.search.Search.rule_4.Goals as goal

pub returns-then-classwise_equal : goal.returns-then-classwise_equal
unfolding found_of rule_at
returns-then-classwise_equal c =
    let o = observer_in c.args.self.now in
    let met = c.args.met.now in
    let equal = rw c.args.self.now.sound.fine_sized at (c.classwise_equal.ensures.0 c.if-classwise_equal.true) in
    sym (rule-none _ o _ (omega arith) (λ i h speaks.
    equal-none _ o _ i (omega arith) (omega arith) h met speaks (reached_offers _ _ _ met c.requires.rows i) equal))

pub same_for_events-requires-clause-by_index : goal.same_for_events-requires-clause-by_index
unfolding rule_at
same_for_events-requires-clause-by_index c =
    let o = observer_in c.args.self.now in
    let met = c.args.met.now in
    let offers = reached_offers _ _ _ met c.requires.rows in
    let made = rw c.args.self.now.sound.sized at c.put_offered_states.ensures in
    λ i. offered_permitted _ o 3 i met c.put_offered_states.new.out (offers i) made.words

pub same_for_events-requires-clause-offers : goal.same_for_events-requires-clause-offers
unfolding rule_at
same_for_events-requires-clause-offers c =
    let offers = reached_offers _ _ _ c.args.met.now c.requires.rows in
    λ h i. offers i
