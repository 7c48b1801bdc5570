-- An accepted record is the layout of its fields, and records with the same fields have the same layout.
use Prim.Native.Nat.{ℕ, ◌+◌, ◌*◌, ◌≤◌, ◌<◌}
use mathlib.Core.Path.{◌≡◌, refl, ap, ◌∙◌}
use mathlib.Core.Bool.{Bool, true, false, cond}
use mathlib.Core.List.{List, [], ◌∷◌, ◌++◌}
use native.Mathlib.Nat.{add-zero, add_assoc, mul-le-mul_right}
use native.Mathlib.Omega.{arith}
use lib.Dec.{eqb}
use lib.ListN.{length, take, drop}
use lib.Seq.{take_all}
use borrow.Author.Tests.{eqb-true, not-false}
use Rattle.bounded.proofs.Lists.{each_same}
use Rattle.bounded.specs.Search.{each}
use Rattle.words.specs.LittleEndian.{Bytes, byte, number, digits}
use Rattle.words.proofs.LittleEndian.{digits_number, part_join, each_parts, bytes-part}
use Rattle.part.specs.Format.{several_kind, limited_kind, one_observer, several_observers, limited_part, form, lists_at, columns_at, column_at, entries_at, rows_at, body_size}
use Rattle.part.specs.declared.format.Form.{Form}
use Rattle.part.specs.Record.{body_length, kind, lead, states, start, events, counts, form_of, observers, observer, listed_level}
use Rattle.part.specs.Record.{class}
use Rattle.part.specs.Record.{entry_at}
use Rattle.part.specs.Record.{identifier, event_kind, level, row_at, row}
use Rattle.screening.specs.Rejections.{wrong_size, Accepted}
use Rattle.part.specs.Layout.{Table, Fields, shape, counts_of, column_of, entry_of, rows_of, body, layout}
use Rattle.part.specs.Frame.{table_of, fields_of}
use Rattle.screening.proofs.Accepted.{in_frame, not-wrong_size}
use Rattle.screening.proofs.Ranges.{frame}
use Rattle.part.proofs.Fields.{classes-before, class_at}

both : {u v x y : List ℕ} → u ≡ v → x ≡ y → u ++ x ≡ v ++ y
both p q = cc

-- ---- what acceptance says of the length

size_is : (b : List ℕ) → Accepted b → body_length b ≡ body_size (counts b)
unfolding wrong_size
size_is b a = eqb-true _ _ (not-false _ (not-wrong_size b (in_frame b a)))

-- ---- an accepted record, part by part

-- The entry of an event: its identifier, its kind and its level.
entry : (b : List ℕ) → Bytes b → (e : ℕ) → e + 4 ≤ length b
    → digits 2 (number 2 b e) ++ byte b (e + 2) ∷ byte b (e + 3) ∷ [] ≡ take 4 (drop e b)
unfolding each
entry b h e l =
    let last = simp (add-zero, add_assoc) at (bytes-part 2 b (e + 2) (omega arith)) in
    rw (digits_number 2 b e h (omega arith), last, part_join)

module _ (b : List ℕ) (h : Bytes b) (a : Accepted b) where
  head : digits 4 (body_size (counts b)) ++ digits 2 (kind b) ≡ take 6 b
  unfolding body_length kind
  head =
      let long = (frame b a).whole in
      rw (← size_is b a)
      (rw (digits_number 4 b 0 h (omega arith), digits_number 2 b 4 h (omega arith), part_join 4 2 b 0))

  numbers : lead b ∷ states b ∷ start b ∷ events b ∷ [] ≡ take 4 (drop 6 b)
  unfolding each lead states start events
  numbers = let long = (frame b a).whole in bytes-part 4 b 6 (omega arith)

  levels : each (form_of b).listed (λ o. listed_level b o ∷ []) ≡ take (form_of b).listed (drop lists_at b)
  unfolding listed_level
  levels = let long = (frame b a).whole in bytes-part _ b _ (omega arith)

  -- the columns, one behind the other
  column : (o : ℕ) → o < (form_of b).columns
      → column_of (fields_of b) o ≡ take (states b) (drop (columns_at (counts b) + states b * o) b)
  column o h =
      let long = (frame b a).whole in
      let inside = classes-before (counts b) (frame b a).few o h in
      let place : column_at (counts b) o ≡ columns_at (counts b) + states b * o = omega arith in
      each_same _ (λ s. class b o s ∷ []) (λ s. byte b (column_at (counts b) o + s) ∷ [])
      (λ s l. ap (λ (c : ℕ). c ∷ []) (class_at b o s l))
      ∙ bytes-part _ b _ (omega arith)
      ∙ ap (λ (p : ℕ). take (states b) (drop p b)) place

  classes : each (form_of b).columns (column_of (fields_of b))
      ≡ take ((form_of b).columns * states b) (drop (columns_at (counts b)) b)
  classes = each_parts _ _ (column_of (fields_of b)) b _ column

  entries : each (events b) (entry_of (table_of b)) ≡ take (events b * 4) (drop (entries_at (counts b)) b)
  unfolding identifier event_kind level entry_at
  entries =
      let long = (frame b a).whole in
      each_parts _ 4 (entry_of (table_of b)) b _ (λ i l. entry b h _ (omega arith))

  rows : each (events b) (rows_of (table_of b)) ≡ take (events b * (states b * 8)) (drop (rows_at (counts b)) b)
  unfolding row row_at
  rows =
      let n = states b in
      let from = rows_at (counts b) in
      let long = (frame b a).whole in
      each_parts _ _ (rows_of (table_of b)) b _
      (λ i l. each_parts n 8 (λ s. digits 8 (row b i s)) b _
      (λ s k.
      let below = mul-le-mul_right n l in
      let place : row_at b i s ≡ from + n * 8 * i + 8 * s = omega arith in
      digits_number 8 b _ h (omega arith) ∙ ap (λ (p : ℕ). take 8 (drop p b)) place))

  pub layout_fields : layout (fields_of b) ≡ b
  unfolding layout body
  layout_fields =
      let n = states b in
      let m = events b in
      let k = (form_of b).listed in
      let w = (form_of b).columns * n in
      let long = (frame b a).whole in
      let at-columns : columns_at (counts b) ≡ 6 + (4 + k) = omega arith in
      let at-entries : entries_at (counts b) ≡ 6 + (4 + k + w) = omega arith in
      let at_rows : rows_at (counts b) ≡ 6 + (4 + k + w + m * 4) = omega arith in
      both head
      (both (both (both (both numbers levels) (rw at-columns at classes)) (rw at-entries at entries))
      (rw at_rows at rows))
      ∙ rw (part_join 4 k b 6, part_join _ _ b 6, part_join _ _ b 6, part_join _ _ b 6)
      (part_join 6 (4 + k + w + m * 4 + m * (n * 8)) b 0
      ∙ take_all (6 + (4 + k + w + m * 4 + m * (n * 8))) b (omega arith))

-- ---- the same fields

-- The numbers of two tables agree, and all that stands at places below them.
pub record SameTable (t u : Table) : Type 0 where
  pub counts : t.states ≡ u.states
  pub starts : t.start ≡ u.start
  pub event-counts : t.events ≡ u.events
  pub identifiers : (i : ℕ) → i < u.events → t.identifier i ≡ u.identifier i
  pub event-kinds : (i : ℕ) → i < u.events → t.event_kind i ≡ u.event_kind i
  pub levels : (i : ℕ) → i < u.events → t.level i ≡ u.level i
  pub rows : (i s : ℕ) → i < u.events → s < u.states → t.row i s ≡ u.row i s

-- So do their kinds, first bytes, lists and columns.
pub record Agree (f g : Fields) : Type 0 where
  pub kinds : f.kind ≡ g.kind
  pub leads : f.lead ≡ g.lead
  pub tables : SameTable f.table g.table
  pub lists : (o : ℕ) → o < (shape g).listed → f.listed o ≡ g.listed o
  pub classes : (o s : ℕ) → o < (shape g).columns → s < g.table.states → f.class o s ≡ g.class o s

-- The level of observer o: in kind 2 it is listed, in the others it is the first byte.
unfoldable pub level_in : Fields → ℕ → ℕ
level_in f o = cond (eqb f.kind several_kind) (f.listed o) f.lead

pub level-read : (b : List ℕ) (o : ℕ) → o < observers b → observer b o ≡ level_in (fields_of b) o
unfolding observer form level_in lead listed_level
level-read b o l = go (eqb (kind b) several_kind) (eqb (kind b) limited_kind) l
  where
    go : (t u : Bool) → let f = cond t (several_observers (byte b 6)) (cond u limited_part one_observer) in
        o < f.observers → byte b (f.levels + o) ≡ cond t (byte b (lists_at + o)) (byte b 6)
    go true u l = refl
    go false true l = let e : o ≡ 0 = omega arith in rw e refl
    go false false l = let e : o ≡ 0 = omega arith in rw e refl

-- Where the fields agree, so do the levels of the observers.
pub level_agree : (f g : Fields) → Agree f g → (o : ℕ) → o < (shape g).observers → level_in f o ≡ level_in g o
unfolding level_in form
level_agree f g w o l =
    rw (w.kinds, w.leads) (go (eqb g.kind several_kind) (cond (eqb g.kind limited_kind) limited_part one_observer)
    (w.lists o) l)
  where
    go : (t : Bool) (other : Form)
        → (o < (cond t (several_observers g.lead) other).listed → f.listed o ≡ g.listed o)
        → o < (cond t (several_observers g.lead) other).observers
        → cond t (f.listed o) g.lead ≡ cond t (g.listed o) g.lead
    go true other h l = h l
    go false other h l = refl

-- Pieces that agree below a count, and the count agrees.
each_both : {n m : ℕ} {p q : ℕ → List ℕ} → n ≡ m → ((i : ℕ) → i < m → p i ≡ q i) → each n p ≡ each m q
each_both {m = m} {p = p} {q = q} e h = ap (λ (k : ℕ). each k p) e ∙ each_same m p q h

pub layout_cong : (f g : Fields) → Agree f g → layout f ≡ layout g
unfolding layout body
layout_cong f g w =
    let t = w.tables in
    let forms : shape f ≡ shape g = cc in
    let numbers : f.lead ∷ f.table.states ∷ f.table.start ∷ f.table.events ∷ []
    ≡ g.lead ∷ g.table.states ∷ g.table.start ∷ g.table.events ∷ [] = cc in
    let front : digits 4 (body_size (counts_of f)) ++ digits 2 f.kind
    ≡ digits 4 (body_size (counts_of g)) ++ digits 2 g.kind = cc in
    let lists : (shape f).listed ≡ (shape g).listed = cc in
    let columns : (shape f).columns ≡ (shape g).columns = cc in
    both front
    (both
    (both
    (both
    (both numbers (each_both lists (λ o l. ap (λ (x : ℕ). x ∷ []) (w.lists o l))))
    (each_both columns (λ o l. each_both t.counts (λ s k. ap (λ (x : ℕ). x ∷ []) (w.classes o s l k)))))
    (each_both t.event-counts (λ i l. cc (t.identifiers i l, t.event-kinds i l, t.levels i l))))
    (each_both t.event-counts (λ i l. each_both t.counts (λ s k. ap (digits 8) (t.rows i s l k)))))
