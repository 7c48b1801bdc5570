-- The bytes of a part's record from its fields, in the order of document 01, "The part record", and of document 02, k and l.
use Rattle.std.specs.Prelude.{ℕ, List, [], ◌∷◌, ◌++◌}
use Rattle.bounded.specs.Search.{each}
use Rattle.words.specs.LittleEndian.{digits}
use Rattle.part.specs.declared.format.Counts.{Counts}
use Rattle.part.specs.declared.format.Form.{Form}
use Rattle.part.specs.Format.{form, body_size}

-- The table of a part, which has no observer: states, start, each event's entry, and the row of each event and state.
pub record Table : Type 0 where
  pub states : ℕ
  pub start : ℕ
  pub events : ℕ
  pub identifier : ℕ → ℕ
  pub event_kind : ℕ → ℕ
  pub level : ℕ → ℕ
  pub row : ℕ → ℕ → ℕ

-- The fields of a record: its kind, the first byte of its body, the table, the levels that are listed, and the columns.
pub record Fields : Type 0 where
  pub kind : ℕ
  pub lead : ℕ
  pub table : Table
  pub listed : ℕ → ℕ
  pub class : ℕ → ℕ → ℕ

-- The form and the counts of the fields.
abbrev pub shape : Fields → Form
shape f = form f.kind f.lead

abbrev pub counts_of : Fields → Counts
counts_of f = record { form = shape f; states = f.table.states; events = f.table.events }

-- Column j.
abbrev pub column_of : Fields → ℕ → List ℕ
column_of f j = each f.table.states (λ s. f.class j s ∷ [])

-- The entry of the event at place i, and all its rows.
abbrev pub entry_of : Table → ℕ → List ℕ
entry_of t i = digits 2 (t.identifier i) ++ t.event_kind i ∷ t.level i ∷ []

abbrev pub rows_of : Table → ℕ → List ℕ
rows_of t i = each t.states (λ s. digits 8 (t.row i s))

-- Four numbers, the listed levels, the columns, the entry of each event, the row of each event and state.
unfoldable pub body : Fields → List ℕ
body f =
    f.lead ∷ f.table.states ∷ f.table.start ∷ f.table.events ∷ []
    ++ each (shape f).listed (λ o. f.listed o ∷ [])
    ++ each (shape f).columns (column_of f)
    ++ each f.table.events (entry_of f.table)
    ++ each f.table.events (rows_of f.table)

-- Length, kind, body.
unfoldable pub layout : Fields → List ℕ
layout f = digits 4 (body_size (counts_of f)) ++ digits 2 f.kind ++ body f
