-- Traces, their low events, and the high inputs in the gaps between these (document 01, "The five rules" and "The shelf"; document 02, i).
use Rattle.std.specs.Prelude.{ℕ, List, [], ◌∷◌}
use Rattle.machine.specs.Machine.{Machine, Observation}
use Rattle.machine.specs.Roles.{Role, missing, low_input, high_input, low_output, silent, role}

module _ {S : Type 0} (M : Machine S) where
  -- The events of the list can follow one another from s.
  abbrev pub Can : S → List ℕ → Type 0
  Can s [] = Unit {0}
  Can s (e ∷ l) = (t : S) × M.step e s t × Can t l

  -- A trace: a list of events that can follow one another from the start state.
  abbrev pub Trace : List ℕ → Type 0
  Trace l = Can M.start l

-- The event at the front of the first list.
unfoldable pub push : ℕ → List (List ℕ) → List (List ℕ)
push e [] = (e ∷ []) ∷ []
push e (g ∷ gs) = (e ∷ g) ∷ gs

-- One event more in front: a low event, that is a low input or a low output, is kept, any other is passed over.
unfoldable pub low_first : Role → ℕ → List ℕ → List ℕ
low_first missing e l = l
low_first low_input e l = e ∷ l
low_first high_input e l = l
low_first low_output e l = e ∷ l
low_first silent e l = l

-- The same for the gaps: a low event ends the gap before it, a high input stands in it, any other is passed over.
unfoldable pub gap_first : Role → ℕ → List (List ℕ) → List (List ℕ)
gap_first missing e gs = gs
gap_first low_input e gs = [] ∷ gs
gap_first high_input e gs = push e gs
gap_first low_output e gs = [] ∷ gs
gap_first silent e gs = gs

module _ {S : Type 0} (M : Machine S) (O : Observation S) where
  -- The low events of a list, in order.
  unfoldable pub lows : List ℕ → List ℕ
  lows [] = []
  lows (e ∷ l) = low_first (role M O e) e (lows l)

  -- The high inputs before, between and after its low events: one list more than there are low events.
  unfoldable pub gaps : List ℕ → List (List ℕ)
  gaps [] = [] ∷ []
  gaps (e ∷ l) = gap_first (role M O e) e (gaps l)
