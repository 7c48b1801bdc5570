-- The fields of a part's record, each read off its bytes (document 01, "The part record"). Past the end of the bytes 0 is read, so that each
-- field is a number for any bytes.
use Rattle.std.specs.Prelude.{ℕ, zero, suc, ◌+◌, ◌*◌, max, List, take, drop}
use Rattle.words.specs.LittleEndian.{byte, number}
use Rattle.part.specs.declared.format.Counts.{Counts}
use Rattle.part.specs.declared.format.Form.{Form}
use Rattle.part.specs.Format.{lists_at, form, column_at, entries_at, rows_at}

-- The length L of the body, and the record's kind.
unfoldable pub body_length : List ℕ → ℕ
body_length b = number 4 b 0

unfoldable pub kind : List ℕ → ℕ
kind b = number 2 b 4

-- The first byte of the body, which the kind gives its meaning; the number n of states, the start state, the number m of events.
unfoldable pub lead : List ℕ → ℕ
lead b = byte b 6

unfoldable pub states : List ℕ → ℕ
states b = byte b 7

unfoldable pub start : List ℕ → ℕ
start b = byte b 8

unfoldable pub events : List ℕ → ℕ
events b = byte b 9

-- Its form, and the counts on which its format depends.
abbrev pub form_of : List ℕ → Form
form_of b = form (kind b) (lead b)

abbrev pub counts : List ℕ → Counts
counts b = record { form = form_of b; states = states b; events = events b }

-- How many observers the part has, the level of observer o, and the level that is listed at place o.
abbrev pub observers : List ℕ → ℕ
observers b = (form_of b).observers

unfoldable pub observer : List ℕ → ℕ → ℕ
observer b o = byte b ((form_of b).levels + o)

unfoldable pub listed_level : List ℕ → ℕ → ℕ
listed_level b o = byte b (lists_at + o)

-- How many columns it has, and column j: a class of each state, a byte each.
abbrev pub columns : List ℕ → ℕ
columns b = (form_of b).columns

unfoldable pub column : List ℕ → ℕ → List ℕ
column b j = take (states b) (drop (column_at (counts b) j) b)

-- The class of state s in column j. Column o has the classes for observer o.
abbrev pub class : List ℕ → ℕ → ℕ → ℕ
class b j s = byte (column b j) s

-- The fine column of observer o, and the fine class of state s for it: in kinds 1 and 2 the classes themselves.
abbrev pub fine_column : List ℕ → ℕ → List ℕ
fine_column b o = column b ((form_of b).finer + o)

abbrev pub fine : List ℕ → ℕ → ℕ → ℕ
fine b o s = byte (fine_column b o) s

-- An observer of a part: its level, and for it the class of each state (document 01: the proposed grouping) and its fine class.
pub record Observer : Type 0 where
  pub level : ℕ
  pub class : ℕ → ℕ
  pub fine : ℕ → ℕ

-- An observer of this level, with the classes of a column and the fine ones of another.
abbrev pub observing : ℕ → List ℕ → List ℕ → Observer
observing level column fine = record { level = level; class = byte column; fine = byte fine }

-- Observer o of the record.
abbrev pub observer_of : List ℕ → ℕ → Observer
observer_of b o = observing (observer b o) (column b o) (fine_column b o)

-- In a column, one above the largest class of the states below s; 0 where there are none.
unfoldable pub classes_below : List ℕ → ℕ → ℕ
classes_below column zero = 0
classes_below column (suc s) = max (classes_below column s) (suc (byte column s))

-- Where the entry of the event at place i stands, and its identifier, kind and level.
unfoldable pub entry_at : List ℕ → ℕ → ℕ
entry_at b i = entries_at (counts b) + 4 * i

unfoldable pub identifier : List ℕ → ℕ → ℕ
identifier b i = number 2 b (entry_at b i)

unfoldable pub event_kind : List ℕ → ℕ → ℕ
event_kind b i = byte b (entry_at b i + 2)

unfoldable pub level : List ℕ → ℕ → ℕ
level b i = byte b (entry_at b i + 3)

-- Where the row of the event at place i and of state s stands, and the row: the set of states that the event may lead to from s.
unfoldable pub row_at : List ℕ → ℕ → ℕ → ℕ
row_at b i s = rows_at (counts b) + 8 * (i * states b + s)

unfoldable pub row : List ℕ → ℕ → ℕ → ℕ
row b i s = number 8 b (row_at b i s)
