use Rattle.std.proofs.Common.{sym, arith}
use Rattle.restrictive.specs.Found.{found_of}
use Rattle.restrictive.proofs.OfferArrays.{mates_permitted}
use Rattle.restrictive.proofs.Sameness.{unspoken}
use Rattle.restrictive.proofs.search.Search.rule_2.Goals as goal

pub returns-then-highs-eq0 : goal.returns-then-highs-eq0
unfolding found_of
returns-then-highs-eq0 c = sym (unspoken _ _ _ _ (omega arith) c.requires c.if-highs-eq0.true)

pub same_for_events-requires-clause-by_index : goal.same_for_events-requires-clause-by_index
same_for_events-requires-clause-by_index c =
    let made = rw c.args.self.now.sound.sized at c.class_mates-mates.ensures in
    let kept = mates_permitted _ _ _ made in
    kept
