use Rattle.std.proofs.Common.{◌≡◌}
use mathlib.Core.Option.{none}
use Rattle.bounded.specs.Search.{first}
use Rattle.restrictive.specs.Searched.{state_found}
use Rattle.restrictive.proofs.naming.Judged.first_violation.Given as goal

abbrev pub invariant-loop-s : goal.invariant-loop-s
invariant-loop-s l = first l.s (state_found l.self.search l.self.case) ≡ none
