-- What a search for one observer looks for. No promise of Check itself rests on this page.
use Rattle.std.specs.Prelude.{ℕ}
use Rattle.std.proofs.Math.Option.{Option}
use Rattle.bounded.specs.Search.{first}
use Rattle.part.specs.Record.{states, Observer, observing}
use Rattle.relations.specs.Sets.{place_of}
use Rattle.restrictive.specs.declared.answer.Case.{Case}
use Rattle.restrictive.specs.declared.search.Search.{Search}
use Rattle.restrictive.specs.Verdict.{Violation, violation_at, state_violation, event_violation, rule_violation}

-- Its observer: the level, and the classes of the two columns.
abbrev pub observer_in : Search → Observer
observer_in x = observing x.observer x.columns.column.classes.now x.columns.fine.classes.now

-- The first violation of rule k + 1, and of it by the event at place i.
abbrev pub rule_found : Search → ℕ → Option Violation
rule_found x k = rule_violation x.b.bytes.now (observer_in x) k

abbrev pub event_found : Search → ℕ → ℕ → Option Violation
event_found x k i = event_violation x.b.bytes.now (observer_in x) k i

-- In a case, the first at s, and the first at s and t.
abbrev pub state_found : Search → Case → ℕ → Option Violation
state_found x c s = state_violation x.b.bytes.now (observer_in x) (place_of c.rule) c.event s

abbrev pub target_found : Search → Case → ℕ → ℕ → Option Violation
target_found x c s t = first (states x.b.bytes.now) (violation_at x.b.bytes.now (observer_in x) (place_of c.rule) c.event s t)
