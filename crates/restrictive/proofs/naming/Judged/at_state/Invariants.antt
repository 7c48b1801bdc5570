use Rattle.std.proofs.Common.{◌≡◌}
use mathlib.Core.Option.{none}
use Rattle.bounded.specs.Search.{first}
use Rattle.restrictive.specs.Searched.{target_found}
use Rattle.restrictive.proofs.naming.Judged.at_state.Given as goal

abbrev pub invariant-loop-t : goal.invariant-loop-t
invariant-loop-t l = first l.t (target_found l.self.search l.self.case l.s) ≡ none
