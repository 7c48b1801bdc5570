-- Where the fields of a framed record stand: inside it, and not far.
use Prim.Native.Nat.{ℕ, ◌+◌, ◌-◌, ◌*◌, ◌≤◌, ◌<◌, max}
use mathlib.Core.Path.{◌≡◌, refl, sym, ap, subst}
use mathlib.Core.Logic.{◌⊎◌, inl, inr}
use mathlib.Core.Bool.{Bool, true, false, cond}
use native.Mathlib.Decide.{dec_lt}
use native.Mathlib.Numerals.{add-one}
use native.Mathlib.Omega.{arith}
use mathlib.Core.List.{List}
use native.Mathlib.Nat.{mul-le-mul, mul-le-mul_right}
use lib.Arith.{digits_lt}
use lib.Dec.{eqb}
use borrow.Author.Tests.{ne_eqb}
use lib.ListN.{length, length-take, length-drop}
use lib.Seq.{get_or-take, get_or-drop}
use Rattle.words.specs.LittleEndian.{byte}
use Rattle.part.specs.declared.format.Form.{Form}
use Rattle.part.specs.declared.format.Counts.{Counts}
use Rattle.part.specs.Format.{single_kind, several_kind, limited_kind, least_listed, max_observers, lists_at, one_observer, several_observers, limited_part, form, column_at}
use Rattle.part.specs.Format.{record_size, max_record}
use Rattle.part.specs.Frame.{Few, Narrow, Framed}
use Rattle.part.specs.Record.{kind, lead, states, events, counts, form_of, observers, column, fine_column, class, classes_below}
use Rattle.part.specs.Record.{row_at}

-- ---- the forms

-- What holds of the form of every kind and first byte, by the three rows.
by_forms : (P : Form → Type 0) → (kind lead : ℕ) → P (several_observers lead) → P limited_part → P one_observer → P (form kind lead)
unfolding form
by_forms P kind lead several limited one = go (eqb kind several_kind) (eqb kind limited_kind)
  where
    go : (t u : Bool) → P (cond t (several_observers lead) (cond u limited_part one_observer))
    go true u = several
    go false true = limited
    go false false = one

-- The levels of the observers stand before the columns, each observer has one, and behind these stands a finer one or
-- none.
pub record Formed (f : Form) : Type 0 where
  pub before : f.levels + f.observers ≤ lists_at + f.listed
  pub own : f.finer + f.observers ≡ f.columns
  pub one_finer : f.finer ≤ 1

pub formed : (kind lead : ℕ) → Formed (form kind lead)
formed kind lead =
    by_forms Formed kind lead
    (record { before = omega arith; own = omega arith; one_finer = omega arith })
    (record { before = omega arith; own = omega arith; one_finer = omega arith })
    (record { before = omega arith; own = omega arith; one_finer = omega arith })

pub own_columns : (b : List ℕ) → (form_of b).finer + observers b ≡ (form_of b).columns
own_columns b = (formed (kind b) (lead b)).own

-- So each observer has its class column and its fine one.
pub own_column : (b : List ℕ) (o : ℕ) → o < observers b → o < (form_of b).columns
own_column b o h = omega (arith, own_columns b)

pub own_fine_column : (b : List ℕ) (o : ℕ) → o < observers b → (form_of b).finer + o < (form_of b).columns
own_fine_column b o h = omega (arith, own_columns b)

-- And each column is one of these.
pub whose_column : (b : List ℕ) (j : ℕ) → 1 ≤ observers b → j < (form_of b).columns
    → (j < observers b) ⊎ ((o : ℕ) × (o < observers b) × (j ≡ (form_of b).finer + o))
whose_column b j some h =
    let w = formed (kind b) (lead b) in
    elim (dec_lt j (observers b)) [
      | yes l ↦ inl l
      | no l ↦ inr (j - (form_of b).finer, omega (arith, w.own, w.one_finer), omega (arith, w.one_finer))
    ]

-- Kind 1 has one observer, and lists none.
pub form_one : (kind lead : ℕ) → kind ≡ single_kind → form kind lead ≡ one_observer
unfolding form
form_one kind lead e = rw e refl

-- Kind 2 has as many as its first byte says.
pub form-several : (kind lead : ℕ) → kind ≡ several_kind → form kind lead ≡ several_observers lead
unfolding form
form-several kind lead e = rw e refl

-- Kind 3 has one, and a finer column.
pub form-limited : (kind lead : ℕ) → kind ≡ limited_kind → form kind lead ≡ limited_part
unfolding form
form-limited kind lead e = rw e refl

-- A kind and a first byte that a record may have: kind 1, or kind 2 with a count in its range, or kind 3.
pub record Several (kind count : ℕ) : Type 0 where
  pub kind_is : kind ≡ several_kind
  pub least : least_listed ≤ count
  pub most : count ≤ max_observers

abbrev pub Described : ℕ → ℕ → Type 0
Described kind lead = (kind ≡ single_kind) ⊎ (Several kind lead ⊎ (kind ≡ limited_kind))

-- Where it is not kind 3, the fine column of an observer is its class column.
pub not-limited : (kind lead : ℕ) → (kind ≡ limited_kind → ⊥) → (form kind lead).finer ≡ 0
unfolding form
not-limited kind lead n = rw (ne_eqb kind limited_kind n) (go (eqb kind several_kind))
  where
    go : (t : Bool) → (cond t (several_observers lead) one_observer).finer ≡ 0
    go true = refl
    go false = refl

pub own_fine : (b : List ℕ) (o : ℕ) → (kind b ≡ limited_kind → ⊥) → fine_column b o ≡ column b o
own_fine b o n = let none = not-limited (kind b) (lead b) n in ap (column b) (omega arith)

-- What the form of such a record meets.
pub record Allowed (f : Form) : Type 0 where
  pub some_observer : 1 ≤ f.observers
  pub narrow : Narrow f

pub form_allowed : (kind lead : ℕ) → Described kind lead → Allowed (form kind lead)
form_allowed kind lead (inl e) =
    subst Allowed (sym (form_one kind lead e)) (record {
      some_observer = omega arith;
      narrow = record { lists = omega arith; columns = omega arith };
    })
form_allowed kind lead (inr (inl w)) =
    subst Allowed (sym (form-several kind lead w.kind_is)) (record {
      some_observer = omega (arith, w.least);
      narrow = record { lists = w.most; columns = w.most };
    })
form_allowed kind lead (inr (inr e)) =
    subst Allowed (sym (form-limited kind lead e)) (record {
      some_observer = omega arith;
      narrow = record { lists = omega arith; columns = omega arith };
    })

-- A first byte lists at most 255.
pub form_small : (kind lead : ℕ) → lead < 256 → ((form kind lead).listed ≤ 255) × ((form kind lead).columns ≤ 255)
form_small kind lead h =
    by_forms (λ f. (f.listed ≤ 255) × (f.columns ≤ 255)) kind lead
    (omega arith, omega arith)
    (omega arith, omega arith)
    (omega arith, omega arith)

-- ---- within the limits

module _ (c : Counts) (few : Few c) where
  -- m events and n states have at most 32 × 64 rows
  pub few-rows : c.events * c.states ≤ 2048
  few-rows = mul-le-mul few.most_events few.most_states

  pub few-classes : c.form.columns * c.states ≤ 16320
  few-classes = mul-le-mul few.most_columns few.most_states

  -- the classes of the columns before o, and those of o
  pub classes-before : (o : ℕ) → o < c.form.columns
      → (o * c.states + c.states ≤ c.form.columns * c.states) × (c.form.columns * c.states ≤ 16320)
  classes-before o h = (omega (arith, mul-le-mul_right c.states h), few-classes)

  pub size-most : Narrow c.form → record_size c ≤ max_record
  size-most narrow = omega (arith, few-rows, mul-le-mul narrow.columns few.most_states)

-- ---- inside a framed record

pub record-most : (b : List ℕ) → Framed b → length b ≤ max_record
record-most b f = omega (arith, f.whole, size-most (counts b) f.few f.narrow)

-- The row of event i and state s is one of the m × n rows. From where the rows of event i begin it stands 8 bytes
-- further for each state before, and it ends inside the record.
pub row_from : (b : List ℕ) (i s at : ℕ) → Framed b → i < events b → s < states b → at ≡ row_at b i 0
    → (at + 8 * s ≡ row_at b i s) × (at + 8 * s + 8 ≤ length b)
unfolding row_at
row_from b i s at f hi hs e = (omega arith, omega (arith, f.whole, digits_lt hi hs))

-- The rows of event i begin before the last row.
pub rows_inside : (b : List ℕ) (i : ℕ) → Framed b → i < events b
    → (i * states b < events b * states b) × (events b * states b ≤ 2048)
rows_inside b i f h = (omega (arith, digits_lt {c = states b} h f.one_state), few-rows (counts b) f.few)

-- An observer's level stands before the columns, and it has a column.
pub level-inside : (b : List ℕ) (o : ℕ) → Framed b → o < observers b
    → ((form_of b).levels + o < length b) × (o < (form_of b).columns)
level-inside b o f h =
    let w = formed (kind b) (lead b) in
    (omega (arith, f.whole, w.before), own_column b o h)

-- A column has a byte for each state.
pub column-size : (b : List ℕ) (o : ℕ) → Framed b → o < (form_of b).columns → length (column b o) ≡ states b
unfolding column
column-size b o f h =
    simp (length-take, length-drop) (omega (arith, f.whole, classes-before (counts b) f.few o h))

pub class_at : (b : List ℕ) (o s : ℕ) → s < states b → class b o s ≡ byte b (column_at (counts b) o + s)
unfolding column
class_at b o s h = rw (get_or-take, get_or-drop)

-- ---- the count of classes, with one state more

pub classes_next : (column : List ℕ) (s : ℕ)
    → classes_below column (s + 1) ≡ max (classes_below column s) (byte column s + 1)
unfolding classes_below
classes_next column s = rw (add-one s) (omega arith)
