use Rattle.std.proofs.Common.{◌≡◌}
use Rattle.bounded.specs.Search.{any}
use Rattle.restrictive.proofs.Offers.{without-step}
use Rattle.restrictive.proofs.search.Search.is_enabled.Given as goal

abbrev pub invariant-loop-s : goal.invariant-loop-s
invariant-loop-s l = l.stuck ≡ any l.s (without-step l.self.b.bytes.now l.event)
