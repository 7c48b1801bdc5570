-- What an event of a machine is to an observer, by its kind and its level (document 01, "Levels" and "The five rules"; document 02, i).
use Rattle.std.specs.Prelude.{ℕ, ◌≡◌, Bool, true, false, ◌⊎◌}
use Rattle.machine.specs.Machine.{Kind, input, output, internal, Event, absent, event, Machine, Observation}

-- The role of an event: it is not there; it is a low input, a high input or a low output; or it is silent (document 01: quiet): a high
-- output, or an internal event at any level.
pub data Role : Type 0 where
  missing low_input high_input low_output silent : Role

-- The role of an event by its kind and whether its level is low. That of an internal event does not depend on the observer.
unfoldable pub at_level : Kind → Bool → Role
at_level input true = low_input
at_level input false = high_input
at_level output true = low_output
at_level output false = silent
at_level internal is_low = silent

-- The role of an event for an observer to whom these levels are low.
unfoldable pub role_of : (ℕ → Bool) → Event → Role
role_of is_low absent = missing
role_of is_low (event k l) = at_level k (is_low l)

-- The role that the event under an identifier has.
abbrev pub role : {S : Type 0} → Machine S → Observation S → ℕ → Role
role M O e = role_of O.low (M.events e)

-- An input, low or high.
abbrev pub IsInput : Role → Type 0
IsInput r = (r ≡ low_input) ⊎ (r ≡ high_input)
