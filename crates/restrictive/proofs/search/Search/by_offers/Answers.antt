use Rattle.std.proofs.Common.{sym, arith}
use Rattle.relations.specs.Sets.{place_of}
use Rattle.restrictive.specs.Found.{found_of}
use Rattle.restrictive.specs.Searched.{observer_in}
use Rattle.restrictive.proofs.Offers.{place_below, beside-fine}
use Rattle.restrictive.proofs.OfferArrays.{offered_permitted}
use Rattle.restrictive.proofs.Sameness.{equal-none}
use Rattle.restrictive.proofs.search.Search.by_offers.Goals as goal

pub returns-then-classwise_equal : goal.returns-then-classwise_equal
unfolding found_of
returns-then-classwise_equal c =
    let x = c.args.self.now in
    let below = place_below c.args.case.rule in
    let equal = rw x.sound.fine_sized at (c.classwise_equal.ensures.0 c.if-classwise_equal.true) in
    sym (equal-none _ _ _ _ c.requires.le_rule.0 below c.requires.event_bound c.args.offers.now c.requires.event_value
    c.requires.offers
    (rw (beside-fine x.observer (place_of c.args.case.rule) x.columns.column.classes.now x.columns.fine.classes.now c.requires.le_rule.0 below c.requires.le_rule.1) equal))

pub case_violation-requires : goal.case_violation-requires
case_violation-requires c =
    let x = c.args.self.now in
    let k = place_of c.args.case.rule in
    let below = place_below c.args.case.rule in
    let made = rw x.sound.sized at c.put_offered_states.ensures in
    record {
      taken = c.requires.le_rule.1;
      placed = c.requires.event_bound;
      later = omega arith;
      speaks = c.requires.event_value;
      permitting =
          offered_permitted _ (observer_in x) k _
          c.args.offers.now c.put_offered_states.new.out c.requires.offers
          (rw (beside-fine x.observer k x.columns.column.classes.now x.columns.fine.classes.now c.requires.le_rule.0 below c.requires.le_rule.1) made.words);
      offering = λ h. c.requires.offers;
    }
