-- The hookup of two event machines, its components, into a composite (document 01, "Joining A and B"; source 000). It is characterised, not
-- built: the states of the composite are of any type, with a function that pairs the states of the components.
use Rattle.std.specs.Prelude.{ℕ, ◌≡◌, ◌↔◌}
use Rattle.machine.specs.Machine.{Kind, input, output, internal, Event, absent, event, Machine, Observation, Refined}
use Rattle.machine.specs.Rules.{Restrictive}

-- What the composite has under an identifier, from what the two components have: the event of the only one that has it, or an internal
-- event where an output of one is an input of the other at the same level. No other two events combine: they clash.
pub data Combines : Event → Event → Event → Type 0 where
  neither : Combines absent absent absent
  left_only : {k : Kind} {l : ℕ} → Combines (event k l) absent (event k l)
  right_only : {k : Kind} {l : ℕ} → Combines absent (event k l) (event k l)
  left_sends : {l : ℕ} → Combines (event output l) (event input l) (event internal l)
  right_sends : {l : ℕ} → Combines (event input l) (event output l) (event internal l)

-- A component's move in a step of the composite at e: it steps where it has the event, and stays where it lacks it.
pub data Move {S : Type 0} (M : Machine S) (e : ℕ) : S → S → Type 0 where
  steps : {s t : S} → M.step e s t → Move M e s t
  stays : {s : S} → M.events e ≡ absent → Move M e s s

-- N is the hookup of A and B, with pair a b for the pair of their states a and b.
pub record IsHookup {SA SB SN : Type 0} (A : Machine SA) (B : Machine SB) (N : Machine SN) (pair : SA → SB → SN) : Type 0 where
  -- The events combine under every identifier.
  pub combined : (e : ℕ) → Combines (A.events e) (B.events e) (N.events e)
  -- N steps exactly where not both components lack the event, and each of them moves.
  pub moves : (e : ℕ) (a a' : SA) (b b' : SB)
      → N.step e (pair a b) (pair a' b') ↔ (((A.events e ≡ absent) × (B.events e ≡ absent) → ⊥) × Move A e a a' × Move B e b b')
  pub starts : N.start ≡ pair A.start B.start
  -- Every state of N is a pair, and pairs of different states are different.
  pub paired : (s : SN) → (a : SA) × (b : SB) × (s ≡ pair a b)
  pub apart : (a a' : SA) (b b' : SB) → pair a b ≡ pair a' b' → (a ≡ a') × (b ≡ b')

-- The product of two observations: the same levels are low for all three, and two pairs have one class exactly if both components have,
-- and one fine class exactly if both components have.
pub record IsProduct {SA SB SN : Type 0} (OA : Observation SA) (OB : Observation SB) (ON : Observation SN) (pair : SA → SB → SN) : Type 0 where
  pub left_low : OA.low ≡ ON.low
  pub right_low : OB.low ≡ ON.low
  pub classes : (a a' : SA) (b b' : SB)
      → (ON.class (pair a b) ≡ ON.class (pair a' b')) ↔ ((OA.class a ≡ OA.class a') × (OB.class b ≡ OB.class b'))
  pub fine_classes : (a a' : SA) (b b' : SB)
      → (ON.fine (pair a b) ≡ ON.fine (pair a' b')) ↔ ((OA.fine a ≡ OA.fine a') × (OB.fine b ≡ OB.fine b'))

-- A hookup of restrictive machines, with fine classes inside their classes, is restrictive.
abbrev pub HookupRestrictive : Type 1
HookupRestrictive =
    (SA SB SN : Type 0) (A : Machine SA) (B : Machine SB) (N : Machine SN) (OA : Observation SA) (OB : Observation SB) (ON : Observation SN)
    (pair : SA → SB → SN) → IsHookup A B N pair → IsProduct OA OB ON pair → Refined OA → Refined OB → Restrictive A OA → Restrictive B OB
    → Restrictive N ON
