use Rattle.std.proofs.Common.{sym, ◌∙◌}
use Rattle.restrictive.specs.Found.{found_of}
use Rattle.restrictive.proofs.Offers.{all_permitted}
use Rattle.restrictive.proofs.naming.Judged.at_row.Goals as goal

pub returns-then-intersection-to : goal.returns-then-intersection-to
unfolding found_of
returns-then-intersection-to c =
    sym (all_permitted _ _ _ _ _ _ _ c.args.self.now.judgeable _ _ c.requires.s_bound c.requires.to_value
    (sym c.intersection.ensures ∙ c.if-intersection-to.true))
