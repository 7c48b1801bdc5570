use Rattle.std.proofs.Common.{◌≡◌}
use mathlib.Core.Option.{none}
use Rattle.bounded.specs.Search.{first}
use Rattle.relations.specs.Sets.{place_of}
use Rattle.restrictive.specs.Searched.{observer_in}
use Rattle.restrictive.specs.Verdict.{violation_at}
use Rattle.restrictive.proofs.naming.Judged.first_unanswered.Given as goal

abbrev pub invariant-loop-u : goal.invariant-loop-u
invariant-loop-u l =
    first l.u (violation_at l.self.search.b.bytes.now (observer_in l.self.search) (place_of l.self.case.rule) l.self.case.event l.s l.t) ≡ none
