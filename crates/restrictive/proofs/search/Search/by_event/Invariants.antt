use Rattle.std.proofs.Common.{◌≡◌}
use mathlib.Core.Option.{none}
use Rattle.bounded.specs.Search.{first}
use Rattle.relations.specs.Sets.{place_of}
use Rattle.restrictive.specs.Searched.{event_found}
use Rattle.restrictive.proofs.search.Search.by_event.Given as goal

abbrev pub invariant-loop-event : goal.invariant-loop-event
invariant-loop-event l = first l.event (event_found l.self (place_of l.rule)) ≡ none
