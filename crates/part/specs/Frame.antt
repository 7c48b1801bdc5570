-- Words in which functions that read a record say what they need of it and what they answer. No promise of a call rests on this page.
use Rattle.std.specs.Prelude.{ℕ, ◌≤◌, ◌<◌, ◌≡◌, List, length, Option, MatchOption}
use Rattle.std.proofs.Math.Option.{none, some}
use Rattle.part.specs.declared.format.Counts.{Counts}
use Rattle.part.specs.declared.format.Form.{Form}
use Rattle.part.specs.Format.{max_states, max_events, widest, record_size}
use Rattle.part.specs.Events.{place}
use Rattle.part.specs.Layout.{Table, Fields}
use Rattle.part.specs.Record.{
  kind,
  lead,
  states,
  start,
  events,
  counts,
  form_of,
  observers,
  listed_level,
  class,
  classes_below,
  identifier,
  event_kind,
  level,
  row,
}

-- The counts are small: bytes, and states and events within their limits.
pub record Few (c : Counts) : Type 0 where
  pub most_listed : c.form.listed ≤ 255
  pub most_columns : c.form.columns ≤ 255
  pub most_states : c.states ≤ max_states
  pub most_events : c.events ≤ max_events

-- A form lists no more, and has no more columns, than the widest.
pub record Narrow (f : Form) : Type 0 where
  pub lists : f.listed ≤ widest.listed
  pub columns : f.columns ≤ widest.columns

-- The record has its whole body, and its counts are within the limits: every field of it can be read.
pub record Framed (b : List ℕ) : Type 0 where
  pub whole : length b ≡ record_size (counts b)
  pub one_state : 1 ≤ states b
  pub some_observer : 1 ≤ observers b
  pub few : Few (counts b)
  pub narrow : Narrow (form_of b)

-- The identifiers rise from place to place.
abbrev pub Rising : List ℕ → Type 0
Rising b = (i j : ℕ) → i < j → j < events b → identifier b i < identifier b j

-- The number of classes of a column.
abbrev pub class_count : List ℕ → ℕ
class_count column = classes_below column (length column)

-- The fields that a record's bytes say.
abbrev pub table_of : List ℕ → Table
table_of b = record {
  states = states b;
  start = start b;
  events = events b;
  identifier = identifier b;
  event_kind = event_kind b;
  level = level b;
  row = row b;
}

abbrev pub fields_of : List ℕ → Fields
fields_of b = record { kind = kind b; lead = lead b; table = table_of b; listed = listed_level b; class = class b }

-- What a search for the event with identifier e finds: its place, if it has one.
abbrev pub FindsPlace : List ℕ → ℕ → Option ℕ → Type 0
FindsPlace b e found = MatchOption found (place b e ≡ none) (λ i. (i < events b) × (place b e ≡ some i))
