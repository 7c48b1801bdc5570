use Rattle.std.proofs.Common.{◌≡◌, ◌<◌}
use mathlib.Core.Option.{none}
use Rattle.std.specs.Prelude.{Ok}
use Rattle.bounded.specs.Search.{first}
use Rattle.part.specs.Record.{observer_of}
use Rattle.restrictive.specs.Found.{FindingFor}
use Rattle.restrictive.proofs.Observers.{for_each}
use Rattle.restrictive.proofs.call.by_observers.Given as goal

-- Nothing is found for those before, and the states taken up are those of the first.
abbrev pub invariant-loop-o : goal.invariant-loop-o
invariant-loop-o l =
    let b = l.accepted.record.bytes.now in
    (first l.o (for_each b) ≡ none) × (0 < l.o → FindingFor b (observer_of b 0) (Ok l.taken))
