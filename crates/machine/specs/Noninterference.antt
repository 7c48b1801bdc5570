-- Generalized noninterference (source 001; document 00, demand 3, last sentence).
use Rattle.std.specs.Prelude.{ℕ, suc, ◌≡◌, List, [], ◌∷◌, length}
use Rattle.machine.specs.Machine.{Machine, Observation, Refined, Unlimited}
use Rattle.machine.specs.Roles.{high_input, role}
use Rattle.machine.specs.Rules.{Restrictive}
use Rattle.machine.specs.Traces.{Trace, lows, gaps}

module _ {S : Type 0} (M : Machine S) (O : Observation S) where
  -- Every event of the list is a high input.
  abbrev pub HighInputs : List ℕ → Type 0
  HighInputs [] = Unit {0}
  HighInputs (e ∷ l) = (role M O e ≡ high_input) × HighInputs l

  abbrev pub AllHighInputs : List (List ℕ) → Type 0
  AllHighInputs [] = Unit {0}
  AllHighInputs (g ∷ gs) = HighInputs g × AllHighInputs gs

  -- A trace with the same low events in the same order, and exactly these lists as its high inputs before, between and after them.
  pub record Matching (l : List ℕ) (gs : List (List ℕ)) : Type 0 where
    pub other : List ℕ
    pub trace : Trace M other
    pub same_lows : lows M O other ≡ lows M O l
    pub given_gaps : gaps M O other ≡ gs

  -- Every trace with k low events, and every k + 1 lists of high inputs, have such a trace.
  abbrev pub Noninterfering : Type 0
  Noninterfering = (l : List ℕ) → Trace M l → (gs : List (List ℕ)) → length gs ≡ suc (length (lows M O l)) → AllHighInputs gs → Matching l gs

-- Machines that are restrictive with an unlimited observation are noninterfering.
abbrev pub RestrictiveHides : Type 1
RestrictiveHides = (S : Type 0) (M : Machine S) (O : Observation S) → Unlimited O → Restrictive M O → Noninterfering M O

-- With a limited observation they need not be: some machine is restrictive with an observation whose fine classes lie inside its classes,
-- and is not noninterfering.
abbrev pub LimitedShows : Type 1
LimitedShows = (S : Type 0) × (M : Machine S) × (O : Observation S) × Refined O × Restrictive M O × (Noninterfering M O → ⊥)
