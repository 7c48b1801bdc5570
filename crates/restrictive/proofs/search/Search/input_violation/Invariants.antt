use Rattle.std.proofs.Common.{◌≡◌}
use mathlib.Core.Option.{none}
use Rattle.bounded.specs.Search.{first}
use Rattle.restrictive.specs.Searched.{observer_in}
use Rattle.restrictive.specs.Verdict.{state_violation}
use Rattle.restrictive.proofs.search.Search.input_violation.Given as goal

abbrev pub invariant-loop-s : goal.invariant-loop-s
invariant-loop-s l = first l.s (state_violation l.self.b.bytes.now (observer_in l.self) 0 l.event) ≡ none
