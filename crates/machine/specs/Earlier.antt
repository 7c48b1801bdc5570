-- The earlier reading of internal events (document 01, "The five rules"), and that what was restrictive in it is restrictive (document 02,
-- i). Document 01 counts an internal event like an output of its level: at a high level it is silent, at a low one rule 5 speaks of it and
-- it is a low event of a trace. So the earlier reading of a machine is the reading of the same machine with its internal events turned
-- into outputs.
use Rattle.std.specs.Prelude.{◌≡◌, refl}
use Rattle.machine.specs.Machine.{input, output, internal, Event, absent, event, Machine, Observation}
use Rattle.machine.specs.Rules.{Restrictive}

-- The event, as an output of its level where it is internal.
unfoldable pub as_output : Event → Event
as_output absent = absent
as_output (event input l) = event input l
as_output (event output l) = event output l
as_output (event internal l) = event output l

-- It is missing only where the event is.
pub as_output_absent : (x : Event) → as_output x ≡ absent → x ≡ absent
unfolding as_output
as_output_absent absent q = refl
as_output_absent (event input l) q = q
as_output_absent (event output l) q = q
as_output_absent (event internal l) q = cc

-- A machine with its internal events turned into outputs.
abbrev pub as_outputs : {S : Type 0} → Machine S → Machine S
as_outputs M = record {
  start = M.start;
  events = λ e. as_output (M.events e);
  step = M.step;
  present = λ e s t p q. M.present e s t p (as_output_absent (M.events e) q);
}

-- A machine that was restrictive in the earlier reading is restrictive.
abbrev pub EarlierRestrictive : Type 1
EarlierRestrictive = (S : Type 0) (M : Machine S) (O : Observation S) → Restrictive (as_outputs M) O → Restrictive M O
