-- Fields that make an accepted record.
use Prim.Native.Nat.{ℕ, zero, suc, ◌+◌, ◌-◌, ◌^◌, ◌≤◌, ◌<◌}
use mathlib.Core.Path.{◌≡◌, sym, ap, ◌∙◌, subst}
use mathlib.Core.Bool.{false, not}
use mathlib.Core.Logic.{inl, inr, ⊎_elim}
use native.Mathlib.Nat.{lt_of_lt_of_le}
use native.Mathlib.Decide.{dec_le, ℕ_discrete}
use native.Mathlib.Omega.{arith}
use lib.ListN.{length}
use lib.Pow.{pow_mono}
use borrow.Author.Tests.{le-ltb, lt-leb, eq-eqb}
use Rattle.bounded.proofs.Search.{any_fails, or-then}
use Rattle.words.specs.Sets.{exceeds}
use Rattle.level.specs.Level.{mislabelled}
use Rattle.part.specs.Format.{limited_kind, limited_part, max_states, max_events, max_event_kind, header}
use Rattle.part.specs.Format.{body_size}
use Rattle.part.specs.Record.{body_length, observers, observer, states, start, events, counts, form_of}
use Rattle.part.specs.Record.{column, class, fine_column, classes_below}
use Rattle.part.specs.Record.{identifier, event_kind, row}
use Rattle.screening.specs.Rejections.{too_short, wrong_length, wrong_kind, out_of_range, wrong_size, misnumbered, misnumbered_at}
use Rattle.screening.specs.Rejections.{unnumbered, skips_at, misrefined, misordered, misordered_at, unknown_at}
use Rattle.screening.specs.Rejections.{mislabelled_part, mislabelled_observer, mislabelled_at, stray_bit, row_strays, strays_at}
use Rattle.screening.specs.Rejections.{falls, mislisted, frame_conditions, content_conditions, NoneOf, Accepted}
use Rattle.screening.proofs.Accepted.{none_both}
use Rattle.part.specs.Layout.{Fields, shape, counts_of, layout}
use Rattle.part.specs.declared.format.Counts.{Counts}
use Rattle.part.specs.declared.format.Form.{Form}
use Rattle.part.specs.Frame.{Few, fields_of}
use Rattle.part.proofs.Fields.{Described, form_allowed, few-rows, few-classes, form-limited, own_column, column-size}
use Rattle.screening.proofs.Rejections.{kind_known, no-fine, last-fine_test, no_list, last_list_test, first-counts, last_range_test, framed}
use Rattle.screening.proofs.Rejections.{not-falling}
use Rattle.partition.specs.Sets.{Inside}
use Rattle.partition.proofs.Refined.{crosses-not}
use Rattle.screening.proofs.Numbered.{class-counted}
use Rattle.screening.proofs.LayoutLaws.{Agree, level_in, level-read, level_agree}
use Rattle.screening.proofs.ReadBack.{Fits, length-layout, read-kind, read-lead, read-counts, read_length, read_back}

-- Fields that a record may have: what Ranges says of accepted records, and room in their bytes.
pub record Proper (f : Fields) : Type 0 where
  pub described : Described f.kind f.lead
  pub lead-fits : f.lead < 256
  pub listed-fits : (o : ℕ) → o < (shape f).listed → f.listed o < 256
  pub observers_rise : (o : ℕ) → suc o < (shape f).observers → level_in f o < level_in f (suc o)
  pub one_state : 1 ≤ f.table.states
  pub most_states : f.table.states ≤ max_states
  pub start_is_state : f.table.start < f.table.states
  pub most_events : f.table.events ≤ max_events
  pub class_first : (o : ℕ) → o < (shape f).columns → f.class o 0 ≡ 0
  pub class_next : (o s : ℕ) → o < (shape f).columns → suc s < f.table.states
      → (r : ℕ) × (r ≤ s) × (f.class o (suc s) ≤ suc (f.class o r))
  pub fine_inside : f.kind ≡ limited_kind → Inside f.table.states (f.class 0) (f.class 1)
  pub identifiers_rise : (i : ℕ) → suc i < f.table.events → f.table.identifier i < f.table.identifier (suc i)
  pub identifier-fits : (i : ℕ) → i < f.table.events → f.table.identifier i < 65536
  pub kinds : (i : ℕ) → i < f.table.events → f.table.event_kind i ≤ max_event_kind
  pub level-fits : (i : ℕ) → i < f.table.events → f.table.level i < 256
  pub observers_labelled : (o : ℕ) → o < (shape f).observers → mislabelled (level_in f o) ≡ false
  pub events_labelled : (i : ℕ) → i < f.table.events → mislabelled (f.table.level i) ≡ false
  pub rows : (i s : ℕ) → i < f.table.events → s < f.table.states → f.table.row i s < 2 ^ f.table.states

-- ---- room

-- The class of a state is at most the state's number.
class-small : (f : Fields) → Proper f → (o : ℕ) → o < (shape f).columns → (n s : ℕ) → s ≤ n → s < f.table.states
    → f.class o s ≤ s
class-small f p o w zero s h l = let e : s ≡ 0 = omega arith in rw e (omega (arith, p.class_first o w))
class-small f p o w (suc n) s h l =
    elim (dec_le s n) [
      | yes k ↦ class-small f p o w n s k l
      | no k ↦
          let e : s ≡ suc n = omega arith in
          let next = p.class_next o n w (omega arith) in
          let before = class-small f p o w n _ next.1 (omega arith) in
          rw e (omega arith)
    ]

pub proper_few : (f : Fields) → Proper f → Few (counts_of f)
proper_few f p =
    let narrow = (form_allowed f.kind f.lead p.described).narrow in
    record {
      most_listed = omega (arith, narrow.lists);
      most_columns = omega (arith, narrow.columns);
      most_states = p.most_states;
      most_events = p.most_events;
    }

pub proper_fits : (f : Fields) → Proper f → Fits f
proper_fits f p =
    let few = proper_few f p in
    record {
      kind_fits = ⊎_elim (λ e. omega arith) (⊎_elim (λ w. omega (arith, w.kind_is)) (λ e. omega arith)) p.described;
      lead-fits = p.lead-fits;
      listed-fits = p.listed-fits;
      count_fits = omega (arith, p.most_states);
      start_fits = omega (arith, p.start_is_state, p.most_states);
      event-count-fits = omega (arith, p.most_events);
      class-fits = λ o s w l. omega (arith, class-small f p o w s s (omega arith) l, p.most_states);
      identifier-fits = p.identifier-fits;
      event_kind-fits = λ i l. omega (arith, p.kinds i l);
      level-fits = p.level-fits;
      row_fits = λ i s l k. lt_of_lt_of_le (p.rows i s l k) (pow_mono p.most_states);
      size_fits = omega (arith, few, few-rows _ few, few-classes _ few);
    }

-- ---- no condition holds of the layout

module _ (f : Fields) (p : Proper f) where
  agree : Agree (fields_of (layout f)) f
  agree = read_back f (proper_fits f p)

  length-read : body_length (layout f) ≡ body_size (counts_of f)
  length-read = read_length f (proper_fits f p)

  long-enough : too_short (layout f) ≡ false
  unfolding too_short
  long-enough = le-ltb (length (layout f)) header (omega (arith, length-layout f))

  length-right : wrong_length (layout f) ≡ false
  unfolding wrong_length
  length-right =
      ap not (eq-eqb (body_length (layout f)) (length (layout f) - header)
      (omega (arith, length-layout f, length-read)))

  kind-right : wrong_kind (layout f) ≡ false
  kind-right =
      let read = read-kind f (proper_fits f p) in
      kind_known (layout f) (⊎_elim
      (λ e. inl (read ∙ e))
      (⊎_elim (λ w. inr (inl (read ∙ w.kind_is))) (λ e. inr (inr (read ∙ e))))
      p.described)

  in_range : out_of_range (layout f) ≡ false
  in_range =
      let n : states (layout f) ≡ f.table.states = agree.tables.counts in
      let z : start (layout f) ≡ f.table.start = agree.tables.starts in
      let m : events (layout f) ≡ f.table.events = agree.tables.event-counts in
      last_range_test _
      (omega (arith, length-read))
      (omega (arith, p.one_state))
      (omega (arith, p.most_states))
      (omega (arith, p.start_is_state))
      ∙ le-ltb max_events (events (layout f)) (omega (arith, p.most_events))

  size-right : wrong_size (layout f) ≡ false
  unfolding wrong_size
  size-right =
      ap not (eq-eqb (body_length (layout f)) (body_size (counts (layout f)))
      (length-read ∙ sym (ap body_size (read-counts f (proper_fits f p)))))

  -- a state's class is at most one above the class of a state before it
  class-step : (o s : ℕ) → o < (shape f).columns → s < f.table.states
      → class (layout f) o s ≤ classes_below (column (layout f) o) s
  class-step o zero k l =
      let c : class (layout f) o 0 ≡ f.class o 0 = agree.classes o 0 k l in
      omega (arith, p.class_first o k)
  class-step o (suc s) k l =
      let w = p.class_next o s k l in
      let c : class (layout f) o (suc s) ≡ f.class o (suc s) = agree.classes o (suc s) k l in
      let d : class (layout f) o w.0 ≡ f.class o w.0 = agree.classes o w.0 k (omega arith) in
      omega (arith, class-counted (column (layout f) o) w.0 (suc s) (omega arith))

  -- the form is that of the fields, and so are the levels of the observers
  form-read : form_of (layout f) ≡ shape f
  form-read = ap (λ (c : Counts). c.form) (read-counts f (proper_fits f p))

  level_back : (o : ℕ) → o < (shape f).observers → observer (layout f) o ≡ level_in f o
  level_back o l =
      level-read (layout f) o (subst (λ (w : Form). o < w.observers) (sym form-read) l) ∙ level_agree _ f agree o l

  count_back : observers (layout f) ≡ (shape f).observers
  count_back = ap (λ (w : Form). w.observers) form-read

  well_listed : mislisted (layout f) ≡ false
  well_listed =
      let read = read-kind f (proper_fits f p) in
      ⊎_elim
      (λ e. no_list (layout f) (λ q. omega arith))
      (⊎_elim
      (λ w.
      let several = read ∙ w.kind_is in
      let count = first-counts (layout f) several ∙ read-lead f (proper_fits f p) in
      last_list_test (layout f) several (omega (arith, w.least)) (omega (arith, w.most))
      ∙ any_fails _ _
      (not-falling (observer (layout f)) (observers (layout f))
      (λ i h.
      rw (level_back i (omega (arith, count_back)), level_back (suc i) (omega (arith, count_back)))
      (p.observers_rise i (omega (arith, count_back))))))
      (λ e. no_list (layout f) (λ q. omega arith)))
      p.described

  frame_clear : NoneOf frame_conditions (layout f)
  frame_clear = search (long-enough, length-right, kind-right, in_range, size-right, well_listed)

  numbered-column : (j : ℕ) → j < (form_of (layout f)).columns → unnumbered (column (layout f) j) ≡ false
  unfolding unnumbered skips_at
  numbered-column j has =
      let n : states (layout f) ≡ f.table.states = agree.tables.counts in
      let here = subst (λ (w : Form). j < w.columns) form-read has in
      let size = column-size _ j (framed _ frame_clear) has in
      any_fails _ _ (λ s l. le-ltb _ _ (class-step j s here (omega arith)))

  numbered : misnumbered (layout f) ≡ false
  unfolding misnumbered misnumbered_at
  numbered = any_fails _ _ (λ o k. numbered-column o (own_column (layout f) o k))

  refined : misrefined (layout f) ≡ false
  refined =
      elim (ℕ_discrete f.kind limited_kind) [
        | yes e ↦
            let read = read-kind f (proper_fits f p) ∙ e in
            let form : form_of (layout f) ≡ limited_part = form-limited _ _ read in
            let two : 2 ≡ (shape f).columns = ap (λ (w : Form). w.columns) (sym form ∙ form-read) in
            let column-0 : (s : ℕ) → s < f.table.states → class (layout f) 0 s ≡ f.class 0 s = λ s l.
            agree.classes 0 s (omega arith) l in
            let column-1 : (s : ℕ) → s < f.table.states → class (layout f) 1 s ≡ f.class 1 s = λ s l.
            agree.classes 1 s (omega arith) l in
            let n : states (layout f) ≡ f.table.states = agree.tables.counts in
            let fine : fine_column (layout f) 0 ≡ column (layout f) 1 = ap (λ (w : Form). column (layout f) (w.finer + 0)) form in
            last-fine_test (layout f) read (ap unnumbered fine ∙ numbered-column 1 (rw form (omega arith)))
            ∙ crosses-not _ _ _
            (λ r s h l q.
            column-0 r (omega arith)
            ∙ p.fine_inside e r s (omega arith) (omega arith)
            (sym (column-1 r (omega arith)) ∙ rw fine at q ∙ column-1 s (omega arith))
            ∙ sym (column-0 s (omega arith)))
        | no n ↦ no-fine (layout f) (λ q. n (sym (read-kind f (proper_fits f p)) ∙ q))
      ]

  rising : (i : ℕ) → i < events (layout f) → falls (identifier (layout f)) i ≡ false
  rising =
      let m : events (layout f) ≡ f.table.events = agree.tables.event-counts in
      not-falling (identifier (layout f)) (events (layout f))
      (λ i l.
      let here : identifier (layout f) i ≡ f.table.identifier i = agree.tables.identifiers i (omega arith) in
      let next : identifier (layout f) (suc i)
      ≡ f.table.identifier (suc i) = agree.tables.identifiers (suc i) (omega arith) in
      omega (arith, p.identifiers_rise i (omega arith)))

  known : (i : ℕ) → i < events (layout f) → unknown_at (layout f) i ≡ false
  unfolding unknown_at
  known i l =
      let m : events (layout f) ≡ f.table.events = agree.tables.event-counts in
      let k : event_kind (layout f) i ≡ f.table.event_kind i = agree.tables.event-kinds i (omega arith) in
      le-ltb max_event_kind (event_kind (layout f) i) (omega (arith, p.kinds i (omega arith)))

  ordered : misordered (layout f) ≡ false
  unfolding misordered misordered_at
  ordered = any_fails _ _ (λ i l. or-then _ _ (rising i l) ∙ known i l)

  labelled : mislabelled_part (layout f) ≡ false
  unfolding mislabelled_part mislabelled_observer mislabelled_at
  labelled =
      or-then _ _
      (any_fails _ _
      (λ o l.
      let here = subst (λ (w : Form). o < w.observers) form-read l in
      ap mislabelled (level_back o here) ∙ p.observers_labelled o here))
      ∙ any_fails _ _
      (λ i l.
      let m : events (layout f) ≡ f.table.events = agree.tables.event-counts in
      ap mislabelled (agree.tables.levels i (omega arith)) ∙ p.events_labelled i (omega arith))

  no_strays : stray_bit (layout f) ≡ false
  unfolding stray_bit row_strays strays_at exceeds
  no_strays =
      any_fails _ _
      (λ i l. any_fails _ _
      (λ s k.
      let n : states (layout f) ≡ f.table.states = agree.tables.counts in
      let m : events (layout f) ≡ f.table.events = agree.tables.event-counts in
      let r : row _ i s ≡ f.table.row i s = agree.tables.rows i s (omega arith) (omega arith) in
      lt-leb (2 ^ states (layout f)) (row (layout f) i s) (rw (n, r) (p.rows i s (omega arith) (omega arith)))))

pub proper_accepted : (f : Fields) → Proper f → Accepted (layout f)
proper_accepted f p =
    none_both frame_conditions content_conditions (layout f) (frame_clear f p)
    (numbered f p, (refined f p, (ordered f p, (labelled f p, (no_strays f p, tt)))))
