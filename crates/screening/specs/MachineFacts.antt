-- What the machine of a record needs to be one, proved: an event that leads somewhere is there, and the start is a state.
use Rattle.std.specs.Prelude.{ℕ, ◌<◌, ◌≡◌, refl, Bool, true, false, ◌||◌, List}
use Rattle.std.proofs.Math.Option.{Option, none, some}
use Rattle.std.proofs.Common.{arith, leb-false}
use Rattle.machine.specs.Machine.{Event, absent, event}
use Rattle.part.specs.Record.{states, start, event_kind, level}
use Rattle.screening.specs.Rejections.{Accepted, out_of_range}
use Rattle.part.specs.Events.{kind_of, place, event_of, Leads}

pub leads_present : (b : List ℕ) (e s t : ℕ) → Leads b e s t → event_of b e ≡ absent → ⊥
unfolding event_of
leads_present b e s t l q = go (place b e) l.placed q
  where
    go : (p : Option ℕ) → p ≡ some l.at
        → elim p as (λ (_ : Option ℕ). Event)
        [ none ↦ absent | some i ↦ event (kind_of (event_kind b i)) (level b i) ] ≡ absent → ⊥
    go none w q = absurd (let z : ◌≡◌ {A = ℕ} 0 1 = cc in omega arith)
    go (some i) w q = let z : ◌≡◌ {A = ℕ} 0 1 = cc in omega arith

-- Where two tests joined by 'or' fail, each fails.
first_fails : (p q : Bool) → (p || q) ≡ false → p ≡ false
first_fails true q e = e
first_fails false q e = refl

second_fails : (p q : Bool) → (p || q) ≡ false → q ≡ false
second_fails true q e = absurd (let z : ◌≡◌ {A = ℕ} 0 1 = cc in omega arith)
second_fails false q e = e

-- The start state of an accepted record is one of its states (4 does not hold).
pub start_below : (b : List ℕ) → Accepted b → start b < states b
unfolding out_of_range
start_below b a = search (a, first_fails, second_fails, leb-false)
