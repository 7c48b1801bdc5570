-- What is proved of records, as statements. Their proofs stand in proofs/: Ranges, Places, Extensional.
use Rattle.std.specs.Prelude.{ℕ, suc, ◌≤◌, ◌<◌, ◌≡◌, ◌↔◌, List, length, T}
use Rattle.std.proofs.Math.Option.{some}
use Rattle.words.specs.Sets.{bit}
use Rattle.words.specs.LittleEndian.{Bytes}
use Rattle.machine.specs.Machine.{Refined, Unlimited}
use Rattle.level.specs.Level.{Mislabelled}
use Rattle.part.specs.Format.{limited_kind, max_states, max_events, max_observers, max_event_kind, record_size}
use Rattle.part.specs.Record.{kind, columns, observers, observer, states, start, events, counts, class, fine, identifier, event_kind, level, row}
use Rattle.screening.specs.Rejections.{Accepted}
use Rattle.screening.specs.Machine.{observation}
use Rattle.part.specs.Events.{place, event_of, Leads}

-- The fields of a record lie in their ranges.
pub record InRange (b : List ℕ) : Type 0 where
  pub one_state : 1 ≤ states b
  pub most_states : states b ≤ max_states
  pub start_is_state : start b < states b
  pub most_events : events b ≤ max_events
  pub whole : length b ≡ record_size (counts b)
  -- one to four observers, whose levels rise
  pub some_observer : 1 ≤ observers b
  pub most_observers : observers b ≤ max_observers
  pub observers_rise : (o p : ℕ) → o < p → p < observers b → observer b o < observer b p
  -- in each column classes below n, numbered by first appearance: state 0 has class 0, each later one is at most one above some class before it
  pub class_below : (j s : ℕ) → j < columns b → s < states b → class b j s < states b
  pub class_first : (j : ℕ) → j < columns b → class b j 0 ≡ 0
  pub class_next : (j s : ℕ) → j < columns b → suc s < states b → (r : ℕ) × (r ≤ s) × (class b j (suc s) ≤ suc (class b j r))
  -- for each observer states of one fine class have one class
  pub fine_inside : (o s t : ℕ) → o < observers b → s < states b → t < states b → fine b o s ≡ fine b o t → class b o s ≡ class b o t
  pub identifiers_rise : (i j : ℕ) → i < j → j < events b → identifier b i < identifier b j
  pub kinds : (i : ℕ) → i < events b → event_kind b i ≤ max_event_kind
  -- neither the level of an observer nor that of an event is mislabelled
  pub observers_labelled : (o : ℕ) → o < observers b → Mislabelled (observer b o) → ⊥
  pub events_labelled : (i : ℕ) → i < events b → Mislabelled (level b i) → ⊥
  pub row_members : (i s t : ℕ) → i < events b → s < states b → T (bit (row b i s) t) → t < states b

-- Each event of an accepted record stands at one place, and is found there by its identifier.
pub record Placed (b : List ℕ) : Type 0 where
  pub found : (i : ℕ) → i < events b → place b (identifier b i) ≡ some i
  pub stands : (e i : ℕ) → place b e ≡ some i → (i < events b) × (identifier b i ≡ e)

-- Two records say the same: kind, observers, states, start, groupings, fine ones too, events and steps (demand 2, last sentence; document
-- 02, l).
pub record Same (a b : List ℕ) : Type 0 where
  pub kinds : kind a ≡ kind b
  pub observer_counts : observers a ≡ observers b
  pub levels : (o : ℕ) → o < observers a → observer a o ≡ observer b o
  pub counts : states a ≡ states b
  pub starts : start a ≡ start b
  pub classes : (o s : ℕ) → o < observers a → s < states a → class a o s ≡ class b o s
  pub fine_classes : (o s : ℕ) → o < observers a → s < states a → fine a o s ≡ fine b o s
  pub event_maps : (e : ℕ) → event_of a e ≡ event_of b e
  pub steps : (e s t : ℕ) → s < states a → t < states a → (Leads a e s t ↔ Leads b e s t)

-- For each observer of an accepted record the fine classes lie inside the classes.
abbrev pub ObservationsRefined : Type 0
ObservationsRefined = (b : List ℕ) → Accepted b → (o : ℕ) → o < observers b → Refined (observation b o)

-- They are the classes themselves where the kind is not 3.
abbrev pub ObservationsUnlimited : Type 0
ObservationsUnlimited = (b : List ℕ) → (kind b ≡ limited_kind → ⊥) → (o : ℕ) → Unlimited (observation b o)

-- Accepted records lie in range.
abbrev pub Ranges : Type 0
Ranges = (b : List ℕ) → Accepted b → InRange b

-- The place of an event in the record and its identifier determine each other.
abbrev pub Places : Type 0
Places = (b : List ℕ) → Accepted b → Placed b

-- Two accepted records are equal exactly when they say the same.
abbrev pub Extensionality : Type 0
Extensionality = (a b : List ℕ) → Bytes a → Bytes b → Accepted a → Accepted b → (a ≡ b) ↔ Same a b
