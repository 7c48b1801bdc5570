-- The limits of a part, and the format of its record: where its columns, entries and rows begin, and how long it is, as
-- functions of its kind and its counts (document 01, "The part record"; document 02, k and l). Readers, layout, sizes and the writer cite this page.
use Rattle.std.specs.Prelude.{ℕ, ◌+◌, ◌*◌, cond, eqb}
use Rattle.part.specs.declared.format.Form.{Form}
use Rattle.part.specs.declared.format.Counts.{Counts}

-- At most so many states, and so many events, and the largest kind of an event.
abbrev pub max_states : ℕ
max_states = 64

abbrev pub max_events : ℕ
max_events = 32

abbrev pub max_event_kind : ℕ
max_event_kind = 2

-- The kinds of record: a part with one observer, one with several, and a limited one, with one observer and a finer column.
abbrev pub single_kind : ℕ
single_kind = 1

abbrev pub several_kind : ℕ
several_kind = 2

abbrev pub limited_kind : ℕ
limited_kind = 3

-- Kind 2 has at least so many observers, and no part has more than so many.
abbrev pub least_listed : ℕ
least_listed = 2

abbrev pub max_observers : ℕ
max_observers = 4

-- Length and kind stand before the body.
abbrev pub header : ℕ
header = 6

-- The body begins with four numbers of a byte each: the first, which the kind gives its meaning, then n, start and m. What is listed
-- stands behind them.
abbrev pub lists_at : ℕ
lists_at = header + 4

-- A record's form: how many observers it has, where their levels begin, how many levels are listed, how many columns there are, and how many
-- columns behind its class column the fine column of an observer stands; where it is none, they are one column.
-- Kind 1: the first byte is the observer's level. Nothing is listed, and there is one column.
abbrev pub one_observer : Form
one_observer = record { observers = 1; levels = header; listed = 0; columns = 1; finer = 0 }

-- Kind 2: the first byte counts the observers. Their levels are listed, and each has a column.
abbrev pub several_observers : ℕ → Form
several_observers count = record { observers = count; levels = lists_at; listed = count; columns = count; finer = 0 }

-- Kind 3: as kind 1, with a second, finer column behind the first.
abbrev pub limited_part : Form
limited_part = record { observers = 1; levels = header; listed = 0; columns = 2; finer = 1 }

-- The form of a record, by its kind and its first byte.
unfoldable pub form : ℕ → ℕ → Form
form kind lead = cond (eqb kind several_kind) (several_observers lead) (cond (eqb kind limited_kind) limited_part one_observer)

-- The columns stand behind the list, one behind the other. A column has a byte for each state.
abbrev pub columns_at : Counts → ℕ
columns_at c = lists_at + c.form.listed

abbrev pub column_at : Counts → ℕ → ℕ
column_at c o = columns_at c + o * c.states

-- Entries of four bytes, one for each event.
abbrev pub entries_at : Counts → ℕ
entries_at c = columns_at c + c.form.columns * c.states

-- Rows of eight bytes, one for each event and state.
abbrev pub rows_at : Counts → ℕ
rows_at c = entries_at c + 4 * c.events

-- The body has 4 + n + 4m + 8mn bytes in kind 1, 4 + c + cn + 4m + 8mn with c observers in kind 2, and 4 + 2n + 4m + 8mn in kind 3.
abbrev pub body_size : Counts → ℕ
body_size c = 4 + c.form.listed + c.form.columns * c.states + 4 * c.events + 8 * (c.events * c.states)

abbrev pub record_size : Counts → ℕ
record_size c = header + body_size c

-- The widest form, and with it the longest record.
abbrev pub widest : Form
widest = several_observers max_observers

abbrev pub max_record : ℕ
max_record = record_size (record { form = widest; states = max_states; events = max_events })
