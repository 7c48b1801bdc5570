-- Records on which the fields are computed: of kinds 2, 1 and 3, and the events of P.
use Rattle.std.specs.Prelude.{ℕ, ◌≡◌, refl, List, [], ◌∷◌, get_or}
use Rattle.bounded.specs.Search.{first, or_else, each}
use Rattle.machine.specs.Machine.{input, output, Event, absent, event}
use Rattle.words.specs.LittleEndian.{number, digits}
use Rattle.part.specs.Format.{form, record_size}
use Rattle.part.specs.Record.{kind, lead, observers, observer, states, events, counts, column, fine_column, entry_at, identifier}
use Rattle.part.specs.Record.{event_kind, level, row_at, row}
use Rattle.part.specs.Layout.{body, layout}
use Rattle.part.specs.Events.{kind_of, at_place, place, event_of}
use Rattle.part.specs.Samples.{P, two_observers, limited_sample}

-- What is read off a record of kind 2: how many observers, the level of each, the class columns, one behind the other, then the entry and
-- the rows; and its size. Columns that went state by state would be 0 0 and 1 0. Of kind 1 the first byte is the level.
record Read : Type 0 where
  levels : List ℕ
  columns : List (List ℕ)
  finest : List ℕ
  entry : List ℕ
  rows : List ℕ
  size : ℕ

read : List ℕ → Read
unfolding form kind lead observer states events column entry_at identifier event_kind level row_at row number digits each
read b = record {
  levels = each (observers b) (λ o. observer b o ∷ []);
  columns = column b 0 ∷ column b 1 ∷ [];
  finest = fine_column b 0;
  entry = identifier b 0 ∷ event_kind b 0 ∷ level b 0 ∷ [];
  rows = row b 0 0 ∷ row b 0 1 ∷ [];
  size = record_size (counts b);
}

read_two : read two_observers ≡ record {
  levels = 0x00 ∷ 0x40 ∷ [];
  columns = (0 ∷ 1 ∷ []) ∷ (0 ∷ 0 ∷ []) ∷ [];
  finest = 0 ∷ 1 ∷ [];
  entry = 1 ∷ 0 ∷ 0x40 ∷ [];
  rows = 2 ∷ 1 ∷ [];
  size = 36;
}
unfolding read
read_two = refl

-- Of kind 3 there is one observer. The first observer's fine column is the second column; in the others it is its own.
read_limited : read limited_sample ≡ record {
  levels = 0x00 ∷ [];
  columns = (0 ∷ 0 ∷ []) ∷ (0 ∷ 1 ∷ []) ∷ [];
  finest = 0 ∷ 1 ∷ [];
  entry = 1 ∷ 0 ∷ 0x40 ∷ [];
  rows = 2 ∷ 1 ∷ [];
  size = 34;
}
unfolding read
read_limited = refl

read_one : (read P).levels ≡ 0x00 ∷ []
unfolding read
read_one = refl

-- Its bytes from its fields.
laid_out : List ℕ
unfolding layout body form each digits
laid_out = layout (record {
  kind = 2;
  lead = 2;
  table = record {
    states = 2;
    start = 0;
    events = 1;
    identifier = λ i. 1;
    event_kind = λ i. 0;
    level = λ i. 0x40;
    row = λ i s. get_or (2 ∷ 1 ∷ []) s 0;
  };
  listed = λ o. get_or (0x00 ∷ 0x40 ∷ []) o 0;
  class = λ o s. get_or (get_or ((0 ∷ 1 ∷ []) ∷ (0 ∷ 0 ∷ []) ∷ []) o []) s 0;
})

laid_two : laid_out ≡ two_observers
unfolding laid_out digits
laid_two = refl

-- The events of P by their identifiers.
event-in-P : ℕ → Event
unfolding event_of place at_place first or_else identifier entry_at form kind lead states events event_kind level kind_of number digits
event-in-P e = event_of P e

event_1 : event-in-P 1 ≡ event input 0x40
unfolding event-in-P
event_1 = refl

event_2 : event-in-P 2 ≡ event output 0
unfolding event-in-P
event_2 = refl

event_3 : event-in-P 3 ≡ absent
unfolding event-in-P
event_3 = refl
