-- Restrictive machines are noninterfering: a trace is followed, event by event, from a state of the same class. A high
-- input of the trace is left out, a silent event is answered by silent steps, a low input or low output by itself with
-- silent steps around it; after each low event the high inputs that are given for the gap are run.
use Prim.Native.Nat.{ℕ}
use mathlib.Core.Path.{◌≡◌, refl, sym, ◌∙◌}
use mathlib.Core.Logic.{inl, inr}
use mathlib.Core.List.{List, [], ◌∷◌}
use native.Mathlib.Omega.{arith}
use lib.ListN.{length}
use Rattle.machine.specs.Machine.{Machine, Observation, Unlimited}
use Rattle.machine.specs.Roles.{Role, missing, low_input, high_input, low_output, silent, role}
use Rattle.machine.specs.Rules.{rule_1, rule_2, rule_3, rule_4, rule_5, Around, Restrictive}
use Rattle.machine.specs.Traces.{Can, low_first, lows}
use Rattle.machine.specs.Noninterference.{HighInputs, AllHighInputs, RestrictiveHides}
use Rattle.machine.proofs.Silent.{around_alone}
use Rattle.machine.proofs.Traces.{IsLow, not-missing, Shows, shows_nothing}
use Rattle.machine.proofs.Traces.{shows_high_input, shows_silent, shows_around}

module _ {S : Type 0} (M : Machine S) (O : Observation S) (U : Unlimited O) (R : Restrictive M O) where
  -- The high inputs of a list can be run first, since they keep the class.
  feed : (g : List ℕ) → HighInputs M O g → (c : ℕ) (ls : List ℕ) (gs : List (List ℕ))
      → ((v : S) → O.class v ≡ c → Shows M O v ls ([] ∷ gs))
      → (u : S) → O.class u ≡ c → Shows M O u ls (g ∷ gs)
  feed [] h c ls gs rest u q = rest u q
  feed (e ∷ g) h c ls gs rest u q =
      let w = R rule_1 e u u u (inr h.0) in
      shows_high_input M O h.0 w.1 (feed g h.1 c _ _ rest w.0 (R rule_2 e u w.0 u (h.0, w.1) ∙ q))

  -- Every state of the class of s answers e with e itself and silent steps around it, which lead into the class of t.
  abbrev AnsweredAround : ℕ → S → S → Type 0
  AnsweredAround e s t = (u : S) → O.class u ≡ O.class s → (v : S) × Around M O e u v × (O.class v ≡ O.class t)

  -- Every state of the class of s can show these low events, with no high input before the first and any given ones
  -- after each.
  abbrev Answered : S → List ℕ → Type 0
  Answered s ls =
      (gs : List (List ℕ)) → AllHighInputs M O gs → length gs ≡ length ls → (u : S) → O.class u ≡ O.class s
      → Shows M O u ls ([] ∷ gs)

  -- So it is with one step more in front: by a low event, a high input, a silent event.
  low-before : (e : ℕ) (s t : S) (ls : List ℕ) → IsLow (role M O e) → AnsweredAround e s t → Answered t ls
      → Answered s (e ∷ ls)
  low-before e s t ls l answer rest [] hs n u q = absurd (omega arith)
  low-before e s t ls l answer rest (g ∷ gs) hs n u q =
      let w = answer u q in
      let m : length gs ≡ length ls = omega arith in
      shows_around M O l w.1 (feed g hs.0 _ _ _ (rest gs hs.1 m) w.0 w.2)

  high_input_before : (e : ℕ) (s t : S) (ls : List ℕ) → role M O e ≡ high_input → M.step e s t → Answered t ls
      → Answered s ls
  high_input_before e s t ls h p rest gs hs n u q = rest gs hs n u (q ∙ sym (R rule_2 e s t u (h, p)))

  silent_before : (e : ℕ) (s t : S) (ls : List ℕ) → role M O e ≡ silent → M.step e s t → Answered t ls
      → Answered s ls
  silent_before e s t ls h p rest gs hs n u q = let w = R rule_4 e s t u (h, p, U u s q) in
      shows_silent M O w.1 (rest gs hs n w.0 w.2)

  step-before : (r : Role) (e : ℕ) (s t : S) (ls : List ℕ) → role M O e ≡ r → M.step e s t → Answered t ls
      → Answered s (low_first r e ls)
  unfolding low_first
  step-before missing e s t ls r p = absurd (not-missing M O p r)
  step-before low_input e s t ls r p =
      low-before e s t _ (inl r) (λ u q.
      let w = R rule_3 e s t u (r, p, q) in
      (w.0, around_alone M O e w.1, w.2))
  step-before high_input e s t ls r p = high_input_before e s t _ r p
  step-before low_output e s t ls r p =
      low-before e s t _ (inr r) (λ u q. R rule_5 e s t u (r, p, U u s q))
  step-before silent e s t ls r p = silent_before e s t _ r p

  answered : (l : List ℕ) (s : S) → Can M s l → Answered s (lows M O l)
  unfolding lows
  answered [] s c [] hs n u q = shows_nothing M O u
  answered [] s c (g ∷ gs) hs n u q = absurd (omega arith)
  answered (e ∷ l) s c gs hs n u q = step-before _ e s c.0 _ refl c.1 (answered l c.0 c.2) gs hs n u q

pub restrictive_hides : RestrictiveHides
restrictive_hides S M O U R l c [] n hs = absurd (omega arith)
restrictive_hides S M O U R l c (g ∷ gs) n hs =
    let m : length gs ≡ length (lows M O l) = omega arith in
    let w = feed M O U R g hs.0 _ _ _ (answered M O U R l M.start c gs hs.1 m) M.start refl in
    record { other = w.list; trace = w.can; same_lows = w.its_lows; given_gaps = w.its_gaps }
