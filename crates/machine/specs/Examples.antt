-- The low events and the gaps of lists of events, computed: no low event, none at all, repeated inputs, an empty gap, an internal
-- event at a low level.
use Rattle.std.specs.Prelude.{ℕ, zero, suc, ◌≡◌, refl, List, [], ◌∷◌, eqb}
use Rattle.machine.specs.Machine.{input, output, internal, Event, absent, event, Machine, Observation}
use Rattle.machine.specs.Roles.{at_level, role_of}
use Rattle.machine.specs.Traces.{push, low_first, gap_first, lows, gaps}

-- One state. 1 is a high input, 2 a low output, 3 an internal event at level 0, 4 a high output, 5 a low input; level 0 is low.
abbrev five : ℕ → Event
five zero = absent
five (suc zero) = event input 0x40
five (suc (suc zero)) = event output 0
five (suc (suc (suc zero))) = event internal 0
five (suc (suc (suc (suc zero)))) = event output 0x40
five (suc (suc (suc (suc (suc zero))))) = event input 0
five (suc (suc (suc (suc (suc (suc e)))))) = absent

abbrev M : Machine (Unit {0})
M = record { start = tt; events = five; step = λ e s t. five e ≡ absent → ⊥; present = λ e s t p. p }

abbrev O : Observation (Unit {0})
O = record { low = λ l. eqb l 0; class = λ s. 0; fine = λ s. 0 }

low_events : List ℕ → List ℕ
unfolding lows low_first role_of at_level
low_events l = lows M O l

inputs : List ℕ → List (List ℕ)
unfolding gaps gap_first push role_of at_level
inputs l = gaps M O l

nothing : inputs [] ≡ [] ∷ []
unfolding inputs
nothing = refl

-- no low event: the whole list is the one gap
one_gap : inputs (1 ∷ 4 ∷ 1 ∷ []) ≡ (1 ∷ 1 ∷ []) ∷ []
unfolding inputs
one_gap = refl

-- an internal event is no low event, whatever its level, and ends no gap; a low input stands in no gap
low_ones : low_events (1 ∷ 2 ∷ 1 ∷ 3 ∷ 1 ∷ 4 ∷ 5 ∷ []) ≡ 2 ∷ 5 ∷ []
unfolding low_events
low_ones = refl

three_gaps : inputs (1 ∷ 2 ∷ 1 ∷ 3 ∷ 1 ∷ 4 ∷ 5 ∷ []) ≡ (1 ∷ []) ∷ (1 ∷ 1 ∷ []) ∷ [] ∷ []
unfolding inputs
three_gaps = refl
