-- Event machines, and what an observer of one is given. No bytes here: states are of any type, levels are numbers that only an
-- observer tells apart.
use Rattle.std.specs.Prelude.{ℕ, ◌≡◌, Bool}

-- The kind of an event (document 01, "The part record"; source 000, section 2).
pub data Kind : Type 0 where
  input output internal : Kind

-- What a machine has under an identifier: no event, or one of a kind at a level.
pub data Event : Type 0 where
  absent : Event
  event : Kind → ℕ → Event

-- A machine over states S: its start state, its event under each identifier, and which state an event may lead to. Only an event that is
-- there leads anywhere.
pub record Machine (S : Type 0) : Type 1 where
  pub start : S
  pub events : ℕ → Event
  pub step : ℕ → S → S → Type 0
  pub present : (e : ℕ) (s t : S) → step e s t → events e ≡ absent → ⊥

-- An observation of a machine: the levels that are low for the observer (document 01, "Levels"), and two partitions of the states: the
-- class of each (document 01: the proposed grouping; document 02, l: the coarse class), and its fine class.
pub record Observation (S : Type 0) : Type 0 where
  pub low : ℕ → Bool
  pub class : S → ℕ
  pub fine : S → ℕ

-- The fine classes lie inside the classes.
abbrev pub Refined : {S : Type 0} → Observation S → Type 0
Refined {S} O = (s t : S) → O.fine s ≡ O.fine t → O.class s ≡ O.class t

-- The observation is unlimited: no class has more than one fine class.
abbrev pub Unlimited : {S : Type 0} → Observation S → Type 0
Unlimited {S} O = (s t : S) → O.class s ≡ O.class t → O.fine s ≡ O.fine t
