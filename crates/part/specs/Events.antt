-- The events of a part's record by their identifiers, and where they lead.
use Rattle.std.specs.Prelude.{ℕ, zero, suc, ◌≡◌, true, false, List, T, eqb}
use Rattle.std.proofs.Math.Option.{Option, none, some}
use Rattle.bounded.specs.Search.{first}
use Rattle.machine.specs.Machine.{Kind, input, output, internal, Event, absent, event}
use Rattle.words.specs.Sets.{bit}
use Rattle.part.specs.Record.{events, identifier, event_kind, level, row}

-- The kind that a kind byte stands for: 0 input, 1 output, 2 internal.
unfoldable pub kind_of : ℕ → Kind
kind_of zero = input
kind_of (suc zero) = output
kind_of (suc (suc k)) = internal

-- i where the event at place i has the identifier e.
unfoldable pub at_place : List ℕ → ℕ → ℕ → Option ℕ
at_place b e i = elim (eqb (identifier b i) e) [ true ↦ some i | false ↦ none ]

-- The place of the event with identifier e.
unfoldable pub place : List ℕ → ℕ → Option ℕ
place b e = first (events b) (at_place b e)

-- The event with identifier e, with its kind and level.
unfoldable pub event_of : List ℕ → ℕ → Event
event_of b e = elim (place b e) [ none ↦ absent | some i ↦ event (kind_of (event_kind b i)) (level b i) ]

-- The event with identifier e may lead from s to t: its row of s has bit t.
pub record Leads (b : List ℕ) (e s t : ℕ) : Type 0 where
  pub at : ℕ
  pub placed : place b e ≡ some at
  pub set : T (bit (row b at s) t)
