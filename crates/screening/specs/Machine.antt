-- The event machine of a part's record, which has no observer, and what each of its observers is given.
use Rattle.std.specs.Prelude.{ℕ, ◌<◌, List}
use Rattle.machine.specs.Machine.{Machine, Observation}
use Rattle.level.specs.Level.{low}
use Rattle.part.specs.Record.{observer, states, start, class, fine}
use Rattle.screening.specs.Rejections.{Accepted}
use Rattle.part.specs.Events.{event_of, Leads}
use Rattle.screening.specs.MachineFacts.{leads_present, start_below}

-- A state of the part: a number below n.
abbrev pub State : List ℕ → Type 0
State b = (s : ℕ) × (s < states b)

-- The machine of an accepted record.
abbrev pub machine : (b : List ℕ) → Accepted b → Machine (State b)
machine b a = record {
  start = (start b, start_below b a);
  events = event_of b;
  step = λ e s t. Leads b e s.0 t.0;
  present = λ e s t. leads_present b e s.0 t.0;
}

-- What observer o is given: which levels are low, the class of each state and its fine class.
abbrev pub observation : (b : List ℕ) → ℕ → Observation (State b)
observation b o = record { low = low (observer b o); class = λ s. class b o s.0; fine = λ s. fine b o s.0 }
