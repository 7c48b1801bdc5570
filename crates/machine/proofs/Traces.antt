-- The laws of lows and gaps: what can be shown from a state, as the low events and the gaps of events that follow one
-- another from it, and what a step in front adds to that, by its role.
use Prim.Native.Nat.{ℕ}
use mathlib.Core.Path.{◌≡◌, refl, ap}
use mathlib.Core.Bool.{Bool, true, false}
use mathlib.Core.Logic.{◌⊎◌, inl, inr}
use mathlib.Core.List.{List, [], ◌∷◌}
use Rattle.machine.specs.Machine.{Kind, input, output, internal, Event, absent, event, Machine, Observation}
use Rattle.machine.specs.Roles.{Role, missing, low_input, high_input, low_output, silent, at_level, role_of}
use Rattle.machine.specs.Roles.{role}
use Rattle.machine.specs.Silent.{Silent, still, then}
use Rattle.machine.specs.Rules.{Around}
use Rattle.machine.specs.Traces.{Can, push, low_first, gap_first, lows, gaps}

-- ---- roles

-- The event is there; and it is not silent.
abbrev pub Present : Role → Type 0
Present missing = ⊥
Present low_input = Unit {0}
Present high_input = Unit {0}
Present low_output = Unit {0}
Present silent = Unit {0}

abbrev pub Sounds : Role → Type 0
Sounds missing = ⊥
Sounds low_input = Unit {0}
Sounds high_input = Unit {0}
Sounds low_output = Unit {0}
Sounds silent = ⊥

-- A low event of a trace.
abbrev pub IsLow : Role → Type 0
IsLow r = (r ≡ low_input) ⊎ (r ≡ low_output)

pub missing-absent : (is_low : ℕ → Bool) (x : Event) → role_of is_low x ≡ missing → x ≡ absent
unfolding role_of at_level
missing-absent is_low absent q = refl
missing-absent is_low (event k l) q = go k (is_low l) q
  where
    go : (k : Kind) (b : Bool) → at_level k b ≡ missing → event k l ≡ absent
    go input true q = cc
    go input false q = cc
    go output true q = cc
    go output false q = cc
    go internal b q = cc

module _ {S : Type 0} (M : Machine S) (O : Observation S) where
  -- An event that leads somewhere is not missing.
  pub not-missing : {e : ℕ} {s t : S} → M.step e s t → role M O e ≡ missing → ⊥
  not-missing {e} {s} {t} p q = M.present e s t p (missing-absent _ (M.events e) q)

  -- ---- what can be shown from a state

  -- Events that can follow one another from s have these low events and these gaps.
  pub record Shows (s : S) (ls : List ℕ) (gs : List (List ℕ)) : Type 0 where
    pub list : List ℕ
    pub can : Can M s list
    pub its_lows : lows M O list ≡ ls
    pub its_gaps : gaps M O list ≡ gs

  pub shows_nothing : (s : S) → Shows s [] ([] ∷ [])
  unfolding lows gaps
  shows_nothing s = record { list = []; can = tt; its_lows = refl; its_gaps = refl }

  -- A step in front.
  pub shows_step : {e : ℕ} {s t : S} {ls : List ℕ} {gs : List (List ℕ)} → M.step e s t → Shows t ls gs
      → Shows s (low_first (role M O e) e ls) (gap_first (role M O e) e gs)
  unfolding lows gaps
  shows_step {e} {t = t} p w =
      record {
        list = e ∷ w.list;
        can = (t, p, w.can);
        its_lows = ap (low_first (role M O e) e) w.its_lows;
        its_gaps = ap (gap_first (role M O e) e) w.its_gaps;
      }

  pub shows_high_input : {e : ℕ} {s t : S} {ls g : List ℕ} {gs : List (List ℕ)} → role M O e ≡ high_input
      → M.step e s t → Shows t ls (g ∷ gs) → Shows s ls ((e ∷ g) ∷ gs)
  unfolding low_first gap_first push
  shows_high_input h p w = rw h at (shows_step p w)

  shows_low : {e : ℕ} {s t : S} {ls : List ℕ} {gs : List (List ℕ)} → IsLow (role M O e) → M.step e s t
      → Shows t ls gs → Shows s (e ∷ ls) ([] ∷ gs)
  unfolding low_first gap_first
  shows_low (inl h) p w = rw h at (shows_step p w)
  shows_low (inr h) p w = rw h at (shows_step p w)

  -- Silent events in front are passed over.
  pub shows_silent : {s t : S} {ls : List ℕ} {gs : List (List ℕ)} → Silent M O s t → Shows t ls gs → Shows s ls gs
  unfolding low_first gap_first
  shows_silent still w = w
  shows_silent (then e h p a) w = rw h at (shows_step p (shows_silent a w))

  -- A low event in front, with silent steps around it.
  pub shows_around : {e : ℕ} {s t : S} {ls : List ℕ} {gs : List (List ℕ)} → IsLow (role M O e)
      → Around M O e s t → Shows t ls gs
      → Shows s (e ∷ ls) ([] ∷ gs)
  shows_around h r w = shows_silent r.before (shows_low h r.step (shows_silent r.after w))
