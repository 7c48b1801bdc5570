-- The machine of the joined record is the hookup of the two machines, with the product of their partitions.
use Prim.Native.Nat.{ℕ, ◌+◌, ◌*◌, ◌/◌, ◌%◌, ◌<◌}
use mathlib.Core.Path.{◌≡◌, refl, sym, ap, ◌∙◌, subst}
use mathlib.Core.HLevel.{Σ_prop_path}
use mathlib.Core.Bool.{◌&&◌}
use mathlib.Core.Logic.{◌↔◌}
use mathlib.Core.List.{List}
use mathlib.Core.Option.{Option, none, some}
use native.Mathlib.Bridge.{le_prop}
use native.Mathlib.Omega.{arith}
use lib.Dec.{T}
use lib.ListN.{length, get_or}
use Rattle.machine.specs.Machine.{Event, absent, event}
use Rattle.machine.specs.Hookup.{Combines, Move, steps, stays, IsHookup, IsProduct}
use Rattle.words.specs.LittleEndian.{Bytes, byte}
use Rattle.words.specs.Sets.{bit}
use Rattle.words.specs.Pairs.{pair}
use Rattle.words.proofs.Sets.{bit-single}
use Rattle.words.proofs.Pairs.{pair_lt, pair_same, pair-first, pair-second, pair_of, first_lt, second_lt, bit-product-pair}
use Rattle.level.specs.Level.{low}
use Rattle.partition.specs.Classes as classes-of
use Rattle.partition.proofs.Limits as limits
use Rattle.part.specs.declared.format.Form.{Form}
use Rattle.part.specs.Format.{form}
use Rattle.part.specs.Record.{kind, lead, form_of, columns, observers, observer, states, start, events, column, fine_column, class, fine}
use Rattle.part.specs.Record.{identifier, event_kind, level, row}
use Rattle.screening.specs.Rejections.{Accepted}
use Rattle.part.specs.Frame.{fields_of}
use Rattle.screening.specs.Machine.{State, machine, observation}
use Rattle.part.specs.Events.{place, event_of, Leads}
use Rattle.screening.proofs.Numbered.{class-counted}
use Rattle.screening.proofs.Ranges.{ranges, frame}
use Rattle.screening.proofs.Places.{places}
use Rattle.part.proofs.Places.{event-none, event_at}
use Rattle.part.proofs.Fields.{own_column, own_fine_column}
use Rattle.screening.proofs.LayoutLaws.{Agree, level-read, level_agree}
use Rattle.screening.proofs.ReadBack.{read_back}
use Rattle.screening.proofs.Proper.{proper_fits}
use Rattle.bounded.proofs.Truth.{eqb_iff, and_iff}
use Rattle.restrictive.specs.Verdict.{limit}
use Rattle.composite.specs.Meeting.{kind_byte, level_byte}
use Rattle.composite.specs.Joined.{merged, joined_kind, column_in, classes, after, joined_event, joined_row, joined_fields, joined}
use Rattle.composite.specs.Theorems.{Joins, JoinedHookup, LimitProduct}
use Rattle.composite.proofs.MergeLaws.{merged_at, merged_has}
use Rattle.composite.proofs.Meetings.{kind_back, level_back, opposite_clear, combined_combines, combined-absent}
use Rattle.composite.proofs.JoinedColumns.{class_in, fine_in, joined-form, joined-level}
use Rattle.composite.proofs.JoinedClasses.{joined-class-pair}
use Rattle.composite.proofs.JoinedProper.{after_none, after-some, pair-class, joined_proper, joined-accepted}

-- States with one number are equal.
same_state : (b : List ℕ) {s t : State b} → s.0 ≡ t.0 → s ≡ t
same_state b e = Σ_prop_path (λ i. le_prop) e

-- ---- one part's move

-- An event that is absent has no place.
absent-place : (b : List ℕ) (e : ℕ) → event_of b e ≡ absent → place b e ≡ none
absent-place b e z = go (place b e) refl
  where
    go : (o : Option ℕ) → place b e ≡ o → place b e ≡ none
    go none p = p
    go (some i) p = absurd (let is = event_at b e i p in let w : ◌≡◌ {A = ℕ} 0 1 = cc in omega arith)

module _ (b : List ℕ) (q : Accepted b) (e : ℕ) where
  move_after : {s t : State b} → Move (machine b q) e s t → T (bit (after b e s.0) t.0)
  move_after (steps {s = s} {t = t} l) = rw (after-some b e s.0 l.at l.placed) l.set
  move_after (stays {s = s} z) =
      rw (after_none b e s.0 (absent-place b e z), bit-single s.0 s.0) ((eqb_iff s.0 s.0).1 refl)

  -- The states after an event are those that the machine may move to.
  pub after_move : (s t : State b) → T (bit (after b e s.0) t.0) ↔ Move (machine b q) e s t
  after_move s t = (go (place b e) refl, move_after)
    where
      go : (o : Option ℕ) → place b e ≡ o → T (bit (after b e s.0) t.0) → Move (machine b q) e s t
      go none p m =
          let same =
          (eqb_iff s.0 t.0).0 (subst T (bit-single s.0 t.0) (rw (after_none b e s.0 p) at m)) in
          subst (Move (machine b q) e s) (same_state b same) (stays (event-none b e p))
      go (some i) p m = steps (record { at = i; placed = p; set = rw (after-some b e s.0 i p) at m })

-- ---- the joined record

module _ (a b : List ℕ) (h : Bytes a) (k : Bytes b) (p : Accepted a) (q : Accepted b) (j : Joins a b) where
  -- What is read off the joined record.
  pub joined_back : Agree (fields_of (joined a b)) (joined_fields a b)
  unfolding joined
  joined_back = read_back (joined_fields a b) (proper_fits (joined_fields a b) (joined_proper a b h k p q j))

  joined_kind-read : kind (joined a b) ≡ joined_kind a b
  unfolding joined_fields
  joined_kind-read = joined_back.kinds

  pub joined-states : states (joined a b) ≡ states a * states b
  unfolding joined_fields
  joined-states = joined_back.tables.counts

  joined-form_of : form_of (joined a b) ≡ form (joined_kind a b) (lead a)
  unfolding joined_fields
  joined-form_of = let k = joined_back.kinds in let l = joined_back.leads in cc

  pub joined-observers : observers (joined a b) ≡ observers a
  joined-observers = let f = joined-form_of in let w = (joined-form a b p q j.joinable.as_many).observers_of in cc

  pub joined-observer : (o : ℕ) → o < observers a → observer (joined a b) o ≡ observer a o
  unfolding joined_fields
  joined-observer o l =
      level-read (joined a b) o (rw joined-observers l)
      ∙ level_agree (fields_of (joined a b)) (joined_fields a b) joined_back o
      (rw (joined-form a b p q j.joinable.as_many).observers_of l)
      ∙ joined-level a b p q j.joinable.as_many o l

  joined-start : start (joined a b) ≡ pair (states b) (start a) (start b)
  unfolding joined_fields
  joined-start = joined_back.tables.starts

  joined-events : events (joined a b) ≡ length (merged a b)
  unfolding joined_fields
  joined-events = joined_back.tables.event-counts

  -- in a column, the class of a pair
  joined-class_in : (i x y : ℕ) → i < columns (joined a b) → x < states a → y < states b
      → class (joined a b) i (pair (states b) x y)
      ≡ pair (classes b i) (byte (column_in a i) x) (byte (column_in b i) y)
  unfolding joined_fields
  joined-class_in i x y h l m =
      joined_back.classes i (pair (states b) x y) (subst (λ (f : Form). i < f.columns) joined-form_of h)
      (pair_lt (states a) (states b) x y l m)
      ∙ joined-class-pair a b i x y m

  pub joined-class : (o x y : ℕ) → o < observers a → x < states a → y < states b
      → class (joined a b) o (pair (states b) x y) ≡ pair (classes b o) (class a o x) (class b o y)
  joined-class o x y h l m =
      joined-class_in o x y (own_column (joined a b) o (rw joined-observers h)) l m
      ∙ rw (class_in a o h, class_in b o (omega (arith, j.joinable.as_many))) refl

  -- where the fine column of an observer stands
  abbrev pub fine-place : ℕ → ℕ
  fine-place o = (form (joined_kind a b) (lead a)).finer + o

  pub joined-fine : (o x y : ℕ) → o < observers a → x < states a → y < states b
      → fine (joined a b) o (pair (states b) x y) ≡ pair (classes b (fine-place o)) (fine a o x) (fine b o y)
  joined-fine o x y h l m =
      let (in-a, in_b) = fine_in a b p q j.joinable.as_many o h in
      ap (λ (f : Form). class (joined a b) (f.finer + o) (pair (states b) x y)) joined-form_of
      ∙ joined-class_in (fine-place o) x y
      (subst (λ (f : Form). f.finer + o < columns (joined a b)) joined-form_of
      (own_fine_column (joined a b) o (rw joined-observers h))) l m
      ∙ rw (in-a, in_b) refl

  -- ---- its events

  accepted : Accepted (joined a b)
  accepted = joined-accepted a b h k p q j

  -- The merged identifiers stand at their places in it.
  joined-stands : (e i : ℕ) → place (joined a b) e ≡ some i → (i < length (merged a b)) × (get_or (merged a b) i 0 ≡ e)
  unfolding joined_fields
  joined-stands e i w =
      let s = (places (joined a b) accepted).stands e i w in
      let l : i < length (merged a b) = omega (arith, joined-events) in
      (l, sym (joined_back.tables.identifiers i (rw joined-events at s.0)) ∙ s.1)

  joined-found : (e i : ℕ) → i < length (merged a b) → get_or (merged a b) i 0 ≡ e → place (joined a b) e ≡ some i
  unfolding joined_fields
  joined-found e i l is =
      let there : identifier (joined a b) i ≡ e = joined_back.tables.identifiers i l ∙ is in
      subst (λ (d : ℕ). place (joined a b) d ≡ some i) there
      ((places (joined a b) accepted).found i (rw joined-events l))

  pub joined_event_of : (e : ℕ) → event_of (joined a b) e ≡ joined_event a b e
  unfolding joined_fields joined_event
  joined_event_of e = go (joined_event a b e) refl
    where
      none_there : (o : Option ℕ) → place (joined a b) e ≡ o → joined_event a b e ≡ absent
          → event_of (joined a b) e ≡ absent
      none_there none w z = event-none (joined a b) e w
      none_there (some i) w z =
          let (l, is) = joined-stands e i w in
          absurd (merged_at a b p q i l (rw is ((combined-absent (event_of a e) (event_of b e)).0 z)))

      go : (x : Event) → joined_event a b e ≡ x → event_of (joined a b) e ≡ x
      go absent z = none_there (place (joined a b) e) refl z
      go (event c l) z =
          let there-is : (event_of a e ≡ absent) × (event_of b e ≡ absent) → ⊥ =
          λ w.
          let n = (combined-absent (event_of a e) (event_of b e)).1 w in let u : ◌≡◌ {A = ℕ} 0 1 = cc in omega arith in
          let (i, m, is) = merged_has a b p q e there-is in
          let kind_is : event_kind (joined a b) i ≡ kind_byte (joined_event a b e) =
          rw is at (joined_back.tables.event-kinds i m) in
          let level-is : level (joined a b) i ≡ level_byte (joined_event a b e) =
          rw is at (joined_back.tables.levels i m) in
          event_at (joined a b) e i (joined-found e i m is) ∙ rw (kind_is, level-is, z, kind_back c l, level_back c l)

  -- ---- its steps

  -- The row of e at a pair has those pairs whose states the two parts may be in after e.
  joined_row-pair : (e i x y x' y' : ℕ) → i < length (merged a b) → get_or (merged a b) i 0 ≡ e
      → x < states a → y < states b → x' < states a → y' < states b
      → bit (row (joined a b) i (pair (states b) x y)) (pair (states b) x' y')
      ≡ (bit (after a e x) x' && bit (after b e y) y')
  unfolding joined_fields joined_row
  joined_row-pair e i x y x' y' l is hx hy hx' hy' =
      let n = states b in
      let reads = joined_back.tables.rows i (pair n x y) l (pair_lt (states a) n x y hx hy) in
      rw (reads, is, pair-first n x y hy, pair-second n x y hy)
      (bit-product-pair (states a) n (after a e x) (after b e y) x' y' hx' hy')

  joined-moves : (e : ℕ) (s s' : State a) (t t' : State b)
      → Leads (joined a b) e (pair (states b) s.0 t.0) (pair (states b) s'.0 t'.0)
      ↔ (((event_of a e ≡ absent) × (event_of b e ≡ absent) → ⊥) × Move (machine a p) e s s'
      × Move (machine b q) e t t')
  joined-moves e s s' t t' = (
    λ l.
        let (inside, is) = joined-stands e l.at l.placed in
        let both = (tests l.at inside is).0 l.set in
        (rw is at (merged_at a b p q l.at inside), both.0, both.1),
    λ (there-is, m, n).
        let (i, l, is) = merged_has a b p q e there-is in
        record { at = i; placed = joined-found e i l is; set = (tests i l is).1 (m, n) },
  )
    where
      tests : (i : ℕ) → i < length (merged a b) → get_or (merged a b) i 0 ≡ e
          → T (bit (row (joined a b) i (pair (states b) s.0 t.0)) (pair (states b) s'.0 t'.0))
          ↔ (Move (machine a p) e s s' × Move (machine b q) e t t')
      tests i l is =
          rw (joined_row-pair e i s.0 t.0 s'.0 t'.0 l is s.1 t.1 s'.1 t'.1)
          (and_iff (bit (after a e s.0) s'.0) (bit (after b e t.0) t'.0) (after_move a p e s s')
          (after_move b q e t t'))

  -- ---- its states

  abbrev pairs : State a → State b → State (joined a b)
  pairs s t =
      (pair (states b) s.0 t.0, rw joined-states (pair_lt (states a) (states b) s.0 t.0 s.1 t.1))

  hookup : (r : Accepted (joined a b)) → IsHookup (machine a p) (machine b q) (machine (joined a b) r) pairs
  unfolding joined_event
  hookup r =
      let n = states b in
      record {
        combined = λ e.
            let x = event_of a e in
            let y = event_of b e in
            subst (Combines x y) (sym (joined_event_of e))
            (combined_combines x y (opposite_clear x y (j.joinable.fits e)));
        moves = joined-moves;
        starts = same_state (joined a b) joined-start;
        paired = λ s.
            let inside : s.0 < states a * n = rw joined-states at s.1 in
            let first : State a = (s.0 / n, first_lt (states a) n s.0 inside) in
            let second : State b = (s.0 % n, second_lt n s.0 (ranges b q).one_state) in
            (first, second, same_state (joined a b) (sym (pair_of n s.0)));
        apart = λ s s' t t' e.
            let w =
            pair_same n s.0 s'.0 t.0 t'.0 t.1 t'.1 (ap (λ (u : State (joined a b)). u.0) e) in
            (same_state a w.0, same_state b w.1);
      }

  partition : (o : ℕ) → o < observers (joined a b)
      → IsProduct (observation a o) (observation b o) (observation (joined a b) o) pairs
  partition o listed = let l : o < observers a = rw joined-observers at listed in record {
    left_low = ap low (sym (joined-observer o l));
    right_low = ap low (sym (j.joinable.levels o l) ∙ sym (joined-observer o l));
    classes = λ s s' t t'.
        alike (classes b o) s.0 s'.0 t.0 t'.0 (pair-class a b o s.0 s'.0 t.0 t'.0 t.1 t'.1)
        (class_in a o l) (class_in b o (omega (arith, j.joinable.as_many)))
        (joined-class o s.0 t.0 l s.1 t.1) (joined-class o s'.0 t'.0 l s'.1 t'.1);
    fine_classes = λ s s' t t'.
        let (in-a, in_b) = fine_in a b p q j.joinable.as_many o l in
        alike (classes b (fine-place o)) s.0 s'.0 t.0 t'.0 (pair-class a b (fine-place o) s.0 s'.0 t.0 t'.0 t.1 t'.1) in-a in_b
        (joined-fine o s.0 t.0 l s.1 t.1) (joined-fine o s'.0 t'.0 l s'.1 t'.1);
  }
    where
      alike : (k x x' y y' : ℕ) {c c' : ℕ} {u v u' v' : List ℕ}
          → (pair k (byte u x) (byte v y) ≡ pair k (byte u x') (byte v y'))
          ↔ ((byte u x ≡ byte u x') × (byte v y ≡ byte v y'))
          → u ≡ u' → v ≡ v'
          → c ≡ pair k (byte u' x) (byte v' y) → c' ≡ pair k (byte u' x') (byte v' y')
          → (c ≡ c') ↔ ((byte u' x ≡ byte u' x') × (byte v' y ≡ byte v' y'))
      alike k x x' y y' w e f here there = rw (here, there, ← e, ← f) w

pub joined-hookup : JoinedHookup
joined-hookup a b h k p q j r =
    (pairs a b h k p q j, λ s t. refl, hookup a b h k p q j r, partition a b h k p q j, joined_kind-read a b h k p q j)

-- ---- its limit

-- The classes of a column are below their number.
counted_in : (b : List ℕ) (i t : ℕ) → t < states b → byte (column_in b i) t < classes b i
unfolding classes
counted_in b i t l = class-counted (column_in b i) t (states b) l

pub limit-product : LimitProduct
unfolding limit
limit-product a b h k p q j =
    let some = (frame a p).some_observer in
    let n = states b in
    let one = (ranges b q).one_state in
    let place = fine-place a b h k p q j 0 in
    let (in-a, in_b) = fine_in a b p q j.joinable.as_many 0 some in
    ap (λ (m : ℕ). classes-of.limit m (byte (column (joined a b) 0)) (byte (fine_column (joined a b) 0)))
    (joined-states a b h k p q j)
    ∙ limits.limit-same (states a * n) _ (λ s. pair (classes b 0) (class a 0 (s / n)) (class b 0 (s % n))) _
    (λ s. pair (classes b place) (fine a 0 (s / n)) (fine b 0 (s % n)))
    (λ s l.
    ap (class (joined a b) 0) (sym (pair_of n s))
    ∙ joined-class a b h k p q j 0 (s / n) (s % n) some (first_lt (states a) n s l) (second_lt n s one))
    (λ s l.
    ap (fine (joined a b) 0) (sym (pair_of n s))
    ∙ joined-fine a b h k p q j 0 (s / n) (s % n) some (first_lt (states a) n s l) (second_lt n s one))
    ∙ limits.limit-product (states a) n (classes b 0) (classes b place) (class a 0) (fine a 0) (class b 0) (fine b 0)
    (ranges a p).one_state one
    (λ t l. rw (← class_in b 0 (omega (arith, j.joinable.as_many))) (counted_in b 0 t l))
    (λ t l. rw (← in_b) (counted_in b place t l))
