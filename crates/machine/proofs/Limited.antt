-- A machine that is restrictive with a limited observation and is not noninterfering: its high input puts an end to its
-- low output. Both states have one class, so rule 2 holds; the fine classes tell them apart, so rule 5 does not ask for
-- the output where it has ended.
use Prim.Native.Nat.{ℕ, zero, suc}
use mathlib.Core.Path.{◌≡◌, refl}
use mathlib.Core.Bool.{Bool, true, false}
use mathlib.Core.Logic.{inl, inr}
use mathlib.Core.List.{List, [], ◌∷◌}
use native.Mathlib.Omega.{arith}
use lib.Dec.{eqb}
use Rattle.machine.specs.Machine.{input, output, Event, absent, event, Machine, Observation}
use Rattle.machine.specs.Roles.{at_level, role_of}
use Rattle.machine.specs.Rules.{rule_1, rule_2, rule_3, rule_4, rule_5, Restrictive}
use Rattle.machine.specs.Traces.{Can, push, low_first, gap_first, lows, gaps}
use Rattle.machine.specs.Noninterference.{Noninterfering, LimitedShows}
use Rattle.machine.proofs.Silent.{around_alone}

never : {A : Type 0} → ◌≡◌ {A = ℕ} 0 1 → A
never z = absurd (omega arith)

-- 1 is a high input, 2 a low output.
abbrev two : ℕ → Event
two zero = absent
two (suc zero) = event input 0x40
two (suc (suc zero)) = event output 0
two (suc (suc (suc e))) = absent

-- The states are whether the output has ended: 1 ends it, 2 is possible where it has not.
data Step : ℕ → Bool → Bool → Type 0 where
  ends : {s : Bool} → Step 1 s true
  speaks : Step 2 false false

there : (e : ℕ) (s t : Bool) → Step e s t → two e ≡ absent → ⊥
there e s t ends q = never cc
there e s t speaks q = never cc

abbrev M : Machine Bool
M = record { start = false; events = two; step = Step; present = there }

abbrev number : Bool → ℕ
number false = 0
number true = 1

-- Level 0 is low. There is one class, and each state has a fine class of its own.
abbrev O : Observation Bool
O = record { low = λ l. eqb l 0; class = λ s. 0; fine = number }

restrictive : Restrictive M O
unfolding role_of at_level
restrictive rule_1 zero s t u (inl h) = never cc
restrictive rule_1 zero s t u (inr h) = never cc
restrictive rule_1 (suc zero) s t u h = (true, ends)
restrictive rule_1 (suc (suc zero)) s t u (inl h) = never cc
restrictive rule_1 (suc (suc zero)) s t u (inr h) = never cc
restrictive rule_1 (suc (suc (suc e))) s t u (inl h) = never cc
restrictive rule_1 (suc (suc (suc e))) s t u (inr h) = never cc
restrictive rule_2 e s t u h = refl
restrictive rule_3 e s t u (h, ends, q) = never cc
restrictive rule_3 e s t u (h, speaks, q) = never cc
restrictive rule_4 e s t u (h, ends, q) = never cc
restrictive rule_4 e s t u (h, speaks, q) = never cc
restrictive rule_5 e s t u (h, ends, q) = never cc
restrictive rule_5 e s t false (h, speaks, q) = (false, around_alone M O 2 speaks, refl)
restrictive rule_5 e s t true (h, speaks, q) = absurd (omega arith)

-- Where the output has ended no low event follows.
ended : (l : List ℕ) → Can M true l → lows M O l ≡ []
unfolding lows low_first role_of at_level
ended [] c = refl
ended (e ∷ l) (t, ends, c) = ended l c

-- No events from the start have 2 as their low event and 1 as the high input before it.
unmatched : (l : List ℕ) → Can M false l → lows M O l ≡ 2 ∷ [] → gaps M O l ≡ (1 ∷ []) ∷ [] ∷ [] → ⊥
unfolding lows low_first gaps gap_first push role_of at_level
unmatched [] c p q = never cc
unmatched (e ∷ l) (t, ends, c) p q = let none = ended l c in never cc
unmatched (e ∷ l) (t, speaks, c) p q = never cc

interferes : Noninterfering M O → ⊥
unfolding lows low_first role_of at_level
interferes hides =
    let w = hides (2 ∷ []) (false, speaks, tt) ((1 ∷ []) ∷ [] ∷ []) refl ((refl, tt), (tt, tt)) in
    unmatched w.other w.trace w.same_lows w.given_gaps

pub limited_shows : LimitedShows
limited_shows = (Bool, M, O, (λ s t q. refl), restrictive, interferes)
