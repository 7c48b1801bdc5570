-- What is read off the layout of fields: the fields.
use Prim.Native.Nat.{ℕ, ◌+◌, ◌*◌, ◌^◌, ◌<◌}
use mathlib.Core.Path.{◌≡◌, refl, sym, ap, ◌∙◌}
use mathlib.Core.List.{List, [], ◌∷◌, ◌++◌, append-nil}
use native.Mathlib.Omega.{arith}
use lib.ListN.{length, length-append}
use Rattle.bounded.specs.Search.{each}
use Rattle.words.specs.LittleEndian.{Bytes, byte, number, digits}
use Rattle.words.proofs.LittleEndian.{length_digits, length-each, number_digits, done, ◌then◌, bytes_of, bytes-append}
use Rattle.words.proofs.LittleEndian.{bytes-digits, bytes-each, Stands, stands-front, stands_back, stands_to}
use Rattle.words.proofs.LittleEndian.{stands-each, stands-byte, stands-number}
use Rattle.part.specs.declared.format.Counts.{Counts}
use Rattle.part.specs.Format.{lists_at, column_at, entries_at, rows_at, body_size, record_size}
use Rattle.part.specs.Record.{body_length, kind, lead, states, start, events, counts, listed_level, entry_at, identifier}
use Rattle.part.specs.Record.{event_kind, level, row_at, row}
use Rattle.part.specs.Layout.{Table, Fields, shape, counts_of, column_of, entry_of, rows_of, body, layout}
use Rattle.part.specs.Frame.{fields_of}
use Rattle.part.proofs.Fields.{class_at}
use Rattle.screening.proofs.LayoutLaws.{Agree}

-- Each number has room in its bytes.
pub record Fits (f : Fields) : Type 0 where
  pub kind_fits : f.kind < 65536
  pub lead-fits : f.lead < 256
  pub listed-fits : (o : ℕ) → o < (shape f).listed → f.listed o < 256
  pub class-fits : (o s : ℕ) → o < (shape f).columns → s < f.table.states → f.class o s < 256
  pub count_fits : f.table.states < 256
  pub start_fits : f.table.start < 256
  pub event-count-fits : f.table.events < 256
  pub identifier-fits : (i : ℕ) → i < f.table.events → f.table.identifier i < 65536
  pub event_kind-fits : (i : ℕ) → i < f.table.events → f.table.event_kind i < 256
  pub level-fits : (i : ℕ) → i < f.table.events → f.table.level i < 256
  pub row_fits : (i s : ℕ) → i < f.table.events → s < f.table.states → f.table.row i s < 2 ^ 64
  pub size_fits : body_size (counts_of f) < 2 ^ 32

-- ---- how long the pieces of a table are

module _ (t : Table) where
  length-entry : (i : ℕ) → length (entry_of t i) ≡ 4
  unfolding digits
  length-entry i = refl

  length-rows : (i : ℕ) → length (rows_of t i) ≡ t.states * 8
  length-rows i = length-each _ 8 (λ s. digits 8 (t.row i s)) (λ s l. length_digits 8 _)

module _ (f : Fields) where
  -- ---- the layout's four runs of pieces, and where they stand

  abbrev table : Table
  table = f.table

  abbrev levels : List ℕ
  levels = each (shape f).listed (λ o. f.listed o ∷ [])

  abbrev columns : List ℕ
  columns = each (shape f).columns (column_of f)

  abbrev entries : List ℕ
  entries = each table.events (entry_of table)

  abbrev tables : List ℕ
  tables = each table.events (rows_of table)

  length-levels : length levels ≡ (shape f).listed * 1
  length-levels = length-each _ 1 (λ o. f.listed o ∷ []) (λ o l. refl)

  length-column : (o : ℕ) → length (column_of f o) ≡ table.states
  length-column o = simp (length-each table.states 1 (λ s. f.class o s ∷ []) (λ s l. refl)) (omega arith)

  length-columns : length columns ≡ (shape f).columns * table.states
  length-columns = length-each _ _ (column_of f) (λ o l. length-column o)

  length-entries : length entries ≡ table.events * 4
  length-entries = length-each _ 4 (entry_of table) (λ i l. length-entry table i)

  length_tables : length tables ≡ table.events * (table.states * 8)
  length_tables = length-each _ _ (rows_of table) (λ i l. length-rows table i)

  pub length-layout : length (layout f) ≡ record_size (counts_of f)
  unfolding layout body digits
  length-layout = simp (length-append, length-levels, length-columns, length-entries, length_tables) (omega arith)

  runs : Stands (levels ++ columns ++ entries ++ tables) (layout f) lists_at
  unfolding layout body digits
  runs = record { rest = []; here = sym (append-nil (levels ++ columns ++ entries ++ tables)) }

  in_front : Stands (levels ++ columns) (layout f) lists_at
  in_front = stands-front (levels ++ columns) entries (stands-front (levels ++ columns ++ entries) tables runs)

  level-stands : (o : ℕ) → o < (shape f).listed → Stands (f.listed o ∷ []) (layout f) (lists_at + o)
  level-stands o l =
      stands_to (omega arith)
      (stands-each _ 1 (λ r. f.listed r ∷ []) (λ r k. refl) (stands-front levels columns in_front) o l)

  class-stands : (o s : ℕ) → o < (shape f).columns → s < table.states
      → Stands (f.class o s ∷ []) (layout f) (column_at (counts_of f) o + s)
  class-stands o s l k =
      stands_to (omega (arith, length-levels))
      (stands-each table.states 1 (λ r. f.class o r ∷ []) (λ r m. refl)
      (stands-each (shape f).columns table.states (column_of f) (λ r m. length-column r)
      (stands_back levels columns in_front) o l) s k)

  entry-stands : (i : ℕ) → i < table.events → Stands (entry_of table i) (layout f) (entries_at (counts_of f) + 4 * i)
  entry-stands i l =
      stands_to (omega (arith, length-append levels columns, length-levels, length-columns))
      (stands-each table.events 4 (entry_of table) (λ j k. length-entry table j)
      (stands_back (levels ++ columns) entries (stands-front (levels ++ columns ++ entries) tables runs)) i l)

  row-stands : (i s : ℕ) → i < table.events → s < table.states
      → Stands (digits 8 (table.row i s)) (layout f) (rows_at (counts_of f) + 8 * (i * table.states + s))
  row-stands i s l k =
      stands_to
      (omega (
        arith,
        length-append (levels ++ columns) entries,
        length-append levels columns,
        length-levels,
        length-columns,
        length-entries,
      ))
      (stands-each table.states 8 (λ r. digits 8 (table.row i r)) (λ r m. length_digits 8 (table.row i r))
      (stands-each table.events (table.states * 8) (rows_of table) (λ j m. length-rows table j)
      (stands_back (levels ++ columns ++ entries) tables runs) i l) s k)

  kind-stands : Stands (digits 2 f.kind) (layout f) 4
  unfolding layout digits
  kind-stands = record { rest = body f; here = refl }

module _ (f : Fields) (w : Fits f) where
  pub read-kind : kind (layout f) ≡ f.kind
  unfolding kind
  read-kind = stands-number 2 f.kind w.kind_fits (kind-stands f)

  pub read-lead : lead (layout f) ≡ f.lead
  unfolding lead layout body digits
  read-lead = refl

  -- the counts that are read are those of the fields
  pub read-counts : counts (layout f) ≡ counts_of f
  unfolding states events layout body digits
  read-counts = let k = read-kind in let l = read-lead in cc

  pub read_length : body_length (layout f) ≡ body_size (counts_of f)
  unfolding body_length layout digits
  read_length = number_digits 4 _ _ w.size_fits

  read-entry : (i : ℕ) → entry_at (layout f) i ≡ entries_at (counts_of f) + 4 * i
  unfolding entry_at
  read-entry i = ap (λ (c : Counts). entries_at c + 4 * i) read-counts

  read-row-place : (i s : ℕ) → row_at (layout f) i s ≡ rows_at (counts_of f) + 8 * (i * f.table.states + s)
  unfolding row_at
  read-row-place i s = ap (λ (c : Counts). rows_at c + 8 * (i * c.states + s)) read-counts

  pub read_back : Agree (fields_of (layout f)) f
  unfolding lead states start events listed_level identifier event_kind level row layout body digits
  read_back = record {
    kinds = read-kind;
    leads = refl;
    tables = record {
      counts = refl;
      starts = refl;
      event-counts = refl;
      identifiers = λ i l. ap (number 2 (layout f)) (read-entry i) ∙ stands-number 2 (f.table.identifier i) (w.identifier-fits i l)
          (stands-front (digits 2 (f.table.identifier i)) (f.table.event_kind i ∷ f.table.level i ∷ [])
          (entry-stands f i l));
      event-kinds = λ i l.
          ap (λ (p : ℕ). byte (layout f) (p + 2)) (read-entry i) ∙ stands-byte
          (stands_back (digits 2 (f.table.identifier i)) (f.table.event_kind i ∷ f.table.level i ∷ [])
          (entry-stands f i l));
      levels = λ i l.
          ap (λ (p : ℕ). byte (layout f) (p + 3)) (read-entry i) ∙ stands-byte
          (stands_back (digits 2 (f.table.identifier i) ++ f.table.event_kind i ∷ []) (f.table.level i ∷ [])
          (entry-stands f i l));
      rows = λ i s l k. ap (number 8 (layout f)) (read-row-place i s) ∙ stands-number 8 (f.table.row i s) (w.row_fits i s l k) (row-stands f i s l k);
    };
    lists = λ o l. stands-byte (level-stands f o l);
    classes = λ o s l k.
        class_at (layout f) o s k
        ∙ ap (λ (c : Counts). byte (layout f) (column_at c o + s)) read-counts
        ∙ stands-byte (class-stands f o s l k);
  }

  pub bytes-layout : Bytes (layout f)
  unfolding layout body
  bytes-layout =
      let t = f.table in
      bytes_of
      (bytes-append
      (bytes-append (bytes-digits 4 _) (bytes-digits 2 _))
      (bytes-append
      (bytes-append
      (bytes-append
      (bytes-append
      (w.lead-fits then w.count_fits then w.start_fits then w.event-count-fits then done)
      (bytes-each _ (λ o. f.listed o ∷ []) (λ o l. w.listed-fits o l then done)))
      (bytes-each _ (column_of f)
      (λ o l. bytes-each _ (λ s. f.class o s ∷ []) (λ s k. w.class-fits o s l k then done))))
      (bytes-each _ (entry_of t)
      (λ i l. bytes-append (bytes-digits 2 _) (w.event_kind-fits i l then w.level-fits i l then done))))
      (bytes-each _ (rows_of t) (λ i l. bytes-each _ (λ s. digits 8 (t.row i s)) (λ s k. bytes-digits 8 _)))))
