-- A record and the same bytes with its internal events turned into outputs: they differ in the kinds alone, so that the
-- one is accepted with the other, and their machines are related as `IsEarlier` asks.
use Prim.Native.Nat.{ℕ, zero, suc, ◌+◌, ◌*◌, ◌≤◌, ◌<◌}
use mathlib.Core.Path.{◌≡◌, refl, sym, ap, ◌∙◌, subst}
use mathlib.Core.Bool.{Bool, not, cond}
use mathlib.Core.List.{List, [], ◌∷◌, append-nil}
use mathlib.Core.Option.{Option, none, some}
use mathlib.Core.Logic.{◌↔◌}
use native.Mathlib.Nat.{mul-one}
use native.Mathlib.Omega.{arith}
use lib.Arith.{digits_lt}
use lib.Dec.{eqb, ltb}
use lib.ListN.{length, take, drop}
use borrow.Author.Tests.{eq-eqb, ne_eqb}
use Rattle.bounded.specs.Search.{any, first}
use Rattle.bounded.proofs.Search.{and_now, and_never, any_at, any_fails, any_same, first-same}
use Rattle.bounded.proofs.Lists.{each_same}
use Rattle.machine.specs.Machine.{event}
use Rattle.machine.specs.Earlier.{as_output}
use Rattle.machine.proofs.Earlier.{IsEarlier}
use Rattle.words.specs.LittleEndian.{byte}
use Rattle.words.proofs.LittleEndian.{length-each, number_same, bytes-part, stands_to, stands-each, stands-byte}
use Rattle.level.specs.Level.{low, mislabelled}
use Rattle.part.specs.Format.{lists_at, entries_at, rows_at, column_at, max_event_kind, body_size, record_size}
use Rattle.part.specs.Record.{body_length, kind, lead, form_of, observers, observer, states, start, events, counts}
use Rattle.part.specs.Record.{column, fine_column, entry_at}
use Rattle.part.specs.Record.{identifier, event_kind, level, row_at, row}
use Rattle.part.specs.declared.format.Form.{Form}
use Rattle.part.specs.declared.format.Counts.{Counts}
use Rattle.part.specs.Frame.{Few}
use Rattle.part.proofs.Fields.{formed, own_column, own_fine_column, classes-before}
use Rattle.screening.specs.Rejections.{too_short, wrong_length, wrong_kind, out_of_range, wrong_size, unnumbered, misnumbered_at, misnumbered}
use Rattle.screening.specs.Rejections.{falls, mislisted, unknown_at, misordered_at, misordered, mislabelled_at, mislabelled_observer}
use Rattle.screening.specs.Rejections.{mislabelled_part, misrefined, frame_conditions, content_conditions}
use Rattle.screening.specs.Rejections.{strays_at, row_strays, stray_bit, Accepted}
use Rattle.part.specs.Events.{kind_of, at_place, place, event_of, Leads}
use Rattle.screening.specs.Machine.{machine, observation}
use Rattle.screening.proofs.Accepted.{none_both, not-misrefined, in_frame, not-too_short, not-wrong_length, not-wrong_kind, not-out_of_range}
use Rattle.screening.proofs.Accepted.{not-wrong_size, not-mislisted, not-misnumbered, not-misordered, not-mislabelled, not-stray}
use Rattle.screening.proofs.Ranges.{frame, ranges}
use Rattle.screening.proofs.Places.{places}
use Rattle.part.proofs.Places.{event-none, event_at}
use Rattle.restrictive.specs.Earlier.{holds_kind, as_output_byte, as_outputs}

-- The kind of an internal event is made that of an output; any other is kept.
abbrev turned : ℕ → ℕ
turned k = cond (eqb k 2) 1 k

-- It is above 2 exactly if the kind is.
turned_known : (k : ℕ) → ltb max_event_kind (turned k) ≡ ltb max_event_kind k
turned_known zero = refl
turned_known (suc zero) = refl
turned_known (suc (suc zero)) = refl
turned_known (suc (suc (suc k))) =
    let above = suc (suc (suc k)) in
    ap (λ (p : Bool). ltb max_event_kind (cond p 1 above)) (ne_eqb above 2 (λ e. omega arith))

turned-event : (k l : ℕ) → k ≤ max_event_kind → event (kind_of (turned k)) l ≡ as_output (event (kind_of k) l)
unfolding kind_of as_output
turned-event zero l h = refl
turned-event (suc zero) l h = refl
turned-event (suc (suc zero)) l h = refl
turned-event (suc (suc (suc k))) l h = absurd (omega arith)

module _ (b : List ℕ) where
  length_as : length (as_outputs b) ≡ length b
  unfolding as_outputs
  length_as = length-each (length b) 1 _ (λ x l. refl) ∙ mul-one (length b)

  byte_as : (x : ℕ) → x < length b → byte (as_outputs b) x ≡ as_output_byte b x
  unfolding as_outputs
  byte_as x l =
      stands-byte
      (stands_to (omega arith)
      (stands-each {at = 0} (length b) 1 (λ y. as_output_byte b y ∷ []) (λ y m. refl)
      (record { rest = []; here = sym (append-nil (as_outputs b)) }) x l))

  -- A byte that is no kind is the same.
  byte-kept : (x : ℕ) → x < length b → ((i : ℕ) → i < events b → entry_at b i + 2 ≡ x → ⊥)
      → byte (as_outputs b) x ≡ byte b x
  unfolding as_output_byte holds_kind
  byte-kept x l n =
      byte_as x l
      ∙ ap (λ (p : Bool). cond p 1 (byte b x))
      (and_never _ (eqb (byte b x) 2) (any_fails _ _ (λ i h. ne_eqb _ _ (n i h))))

-- ---- the fields

module _ (b : List ℕ) (a : Accepted (as_outputs b)) where
  abbrev c : List ℕ
  c = as_outputs b

  -- Before the columns end no entry has begun.
  front : (x : ℕ) → x < entries_at (counts b) → x < length b → byte c x ≡ byte b x
  unfolding entry_at
  front x h l = byte-kept b x l (λ i m e. omega arith)

  long : lists_at ≤ length b
  long = omega (arith, length_as b, (frame c a).whole)

  same-states : states c ≡ states b
  unfolding states
  same-states = front 7 (omega arith) (omega (arith, long))

  same-events : events c ≡ events b
  unfolding events
  same-events = front 9 (omega arith) (omega (arith, long))

  same-lead : lead c ≡ lead b
  unfolding lead
  same-lead = front 6 (omega arith) (omega (arith, long))

  same_start : start c ≡ start b
  unfolding start
  same_start = front 8 (omega arith) (omega (arith, long))

  same_length : body_length c ≡ body_length b
  unfolding body_length
  same_length = number_same 4 c b 0 0 (λ j h. front (0 + j) (omega arith) (omega (arith, long)))

  same_kind : kind c ≡ kind b
  unfolding kind
  same_kind = number_same 2 c b 4 4 (λ j h. front (4 + j) (omega arith) (omega (arith, long)))

  same-form : form_of c ≡ form_of b
  same-form = rw (same_kind, same-lead) refl

  same-counts : counts c ≡ counts b
  same-counts = let f = same-form in let n = same-states in let m = same-events in cc

  whole : length b ≡ record_size (counts b)
  whole = sym (length_as b) ∙ (frame c a).whole ∙ ap record_size same-counts

  few : Few (counts b)
  few = subst Few same-counts (frame c a).few

  -- ---- each observer

  same-observer : (o : ℕ) → o < observers b → observer c o ≡ observer b o
  unfolding observer
  same-observer o l =
      let w = formed (kind b) (lead b) in
      ap (λ (f : Form). byte c (f.levels + o)) same-form
      ∙ front ((form_of b).levels + o) (omega (arith, w.before)) (omega (arith, w.before, whole))

  same-column : (j : ℕ) → j < (form_of b).columns → column c j ≡ column b j
  unfolding column
  same-column j l =
      let at = column_at (counts b) j in
      let inside = classes-before (counts b) few j l in
      ap (λ (k : Counts). take k.states (drop (column_at k j) c)) same-counts
      ∙ sym (bytes-part (states b) c at (omega (arith, whole, length_as b)))
      ∙ each_same (states b) (λ s. byte c (at + s) ∷ []) (λ s. byte b (at + s) ∷ [])
      (λ s h. ap (λ (x : ℕ). x ∷ []) (front (at + s) (omega arith) (omega (arith, whole))))
      ∙ bytes-part (states b) b at (omega (arith, whole))

  same-fine : (o : ℕ) → o < observers b → fine_column c o ≡ fine_column b o
  same-fine o l =
      ap (λ (f : Form). column c (f.finer + o)) same-form ∙ same-column _ (own_fine_column b o l)

  same-entry : (i : ℕ) → entry_at c i ≡ entry_at b i
  unfolding entry_at
  same-entry i = ap (λ (k : Counts). entries_at k + 4 * i) same-counts

  module _ (i : ℕ) (h : i < events b) where
    same-identifier : identifier c i ≡ identifier b i
    unfolding identifier entry_at
    same-identifier =
        number_same 2 c b (entry_at c i) (entry_at b i) (λ j l.
        ap (byte c) (ap (λ (x : ℕ). x + j) (same-entry i))
        ∙ byte-kept b (entry_at b i + j) (omega (arith, whole)) (λ k m e. omega arith))

    same-level : level c i ≡ level b i
    unfolding level entry_at
    same-level =
        ap (λ (x : ℕ). byte c (x + 3)) (same-entry i)
        ∙ byte-kept b (entry_at b i + 3) (omega (arith, whole)) (λ k m e. omega arith)

    turned-kind : event_kind c i ≡ turned (event_kind b i)
    unfolding event_kind as_output_byte holds_kind entry_at
    turned-kind =
        let x = entry_at b i + 2 in
        ap (λ (e : ℕ). byte c (e + 2)) (same-entry i)
        ∙ byte_as b x (omega (arith, whole))
        ∙ ap (λ (p : Bool). cond p 1 (byte b x)) (and_now _ (eqb (byte b x) 2) (any_at _ _ i h (eq-eqb x x refl)))

    same_row : (s : ℕ) → s < states b → row c i s ≡ row b i s
    unfolding row row_at entry_at
    same_row s l =
        let place = ap (λ (k : Counts). rows_at k + 8 * (i * k.states + s)) same-counts in
        number_same 8 c b (row_at c i s) (row_at b i s) (λ j m.
        ap (byte c) (ap (λ (x : ℕ). x + j) place)
        ∙ byte-kept b (row_at b i s + j) (omega (arith, whole, digits_lt {c = states b} h l)) (λ k n e. omega arith))

  -- ---- the conditions: each holds of b exactly if it holds of c

  at_each : {n m : ℕ} (f g : ℕ → Bool) → m ≡ n → ((i : ℕ) → i < n → f i ≡ g i) → any n f ≡ any m g
  at_each {n} f g e same = any_same n f g same ∙ ap (λ (k : ℕ). any k g) (sym e)

  falls-alike : {n : ℕ} {f g : ℕ → ℕ} → ((i : ℕ) → i < n → g i ≡ f i) → (i : ℕ) → i < n → falls f i ≡ falls g i
  unfolding falls
  falls-alike same zero h = refl
  falls-alike same (suc i) h = rw (same (suc i) h, same i (omega arith)) refl

  pub same-observers : observers c ≡ observers b
  same-observers = let f = same-form in cc

  short : too_short b ≡ too_short c
  unfolding too_short
  short = rw (length_as b) refl

  in_length : wrong_length b ≡ wrong_length c
  unfolding wrong_length
  in_length = rw (same_length, length_as b) refl

  of_kind : wrong_kind b ≡ wrong_kind c
  unfolding wrong_kind
  of_kind = rw same_kind refl

  in_range : out_of_range b ≡ out_of_range c
  unfolding out_of_range
  in_range = rw (same_length, same-states, same_start, same-events) refl

  in_size : wrong_size b ≡ wrong_size c
  unfolding wrong_size
  in_size = rw same_length (ap (λ (k : Counts). not (eqb (body_length b) (body_size k))) (sym same-counts))

  in_list : mislisted b ≡ mislisted c
  unfolding mislisted
  in_list =
      let falling = at_each (falls (observer b)) (falls (observer c)) same-observers (falls-alike same-observer) in
      let kinds = same_kind in
      let counts = same-observers in
      cc

  numbered : misnumbered b ≡ misnumbered c
  unfolding misnumbered misnumbered_at
  numbered = at_each _ _ same-observers (λ o h. ap unnumbered (sym (same-column o (own_column b o h))))

  refined : misrefined b ≡ misrefined c
  unfolding misrefined
  refined =
      let some : 0 < observers b = omega (arith, (frame c a).some_observer, same-observers) in
      let first = same-column 0 (own_column b 0 some) in
      let fine = same-fine 0 some in
      let kinds = same_kind in
      let states = same-states in
      cc

  in_place : (i : ℕ) → i < events b → misordered_at b i ≡ misordered_at c i
  unfolding misordered_at unknown_at
  in_place i h = rw (falls-alike same-identifier i h, turned-kind i h, turned_known) refl

  ordered : misordered b ≡ misordered c
  unfolding misordered
  ordered = at_each _ _ same-events in_place

  labelled : mislabelled_part b ≡ mislabelled_part c
  unfolding mislabelled_part mislabelled_observer mislabelled_at
  labelled =
      let first = at_each (mislabelled_observer b) (mislabelled_observer c) same-observers
      (λ o h. ap mislabelled (sym (same-observer o h))) in
      let second = at_each (mislabelled_at b) (mislabelled_at c) same-events
      (λ i h. ap mislabelled (sym (same-level i h))) in
      cc

  within : stray_bit b ≡ stray_bit c
  unfolding stray_bit row_strays strays_at
  within =
      at_each _ _ same-events (λ i h.
      at_each (strays_at b i) (strays_at c i) same-states (λ s l. rw (same-states, same_row i h s l) refl))

  pub earlier-accepted : Accepted b
  earlier-accepted =
      let f = in_frame c a in
      none_both frame_conditions content_conditions b
      (search (
        short ∙ not-too_short c f,
        in_length ∙ not-wrong_length c f,
        of_kind ∙ not-wrong_kind c f,
        in_range ∙ not-out_of_range c f,
        in_size ∙ not-wrong_size c f,
        in_list ∙ not-mislisted c f,
      ))
      (search (
        numbered ∙ not-misnumbered c a,
        refined ∙ not-misrefined c a,
        ordered ∙ not-misordered c a,
        labelled ∙ not-mislabelled c a,
        within ∙ not-stray c a,
      ))

  -- ---- the machines

  same_place : (e : ℕ) → place c e ≡ place b e
  unfolding place at_place
  same_place e =
      ap (λ (m : ℕ). first m (at_place c e)) same-events
      ∙ first-same (events b) _ _ (λ i h. rw (same-identifier i h, at_place) refl)

  earlier-event : (e : ℕ) → event_of c e ≡ as_output (event_of b e)
  unfolding as_output
  earlier-event e = go (place b e) refl
    where
      go : (o : Option ℕ) → place b e ≡ o → event_of c e ≡ as_output (event_of b e)
      go none p = event-none c e (same_place e ∙ p) ∙ sym (ap as_output (event-none b e p))
      go (some i) p =
          let h = ((places b earlier-accepted).stands e i p).0 in
          event_at c e i (same_place e ∙ p)
          ∙ rw (turned-kind i h, same-level i h)
          (turned-event (event_kind b i) (level b i) ((ranges b earlier-accepted).kinds i h)
          ∙ sym (ap as_output (event_at b e i p)))

  -- The same steps.
  earlier-leads : (e s t : ℕ) → s < states b → Leads b e s t ↔ Leads c e s t
  earlier-leads e s t h = (
    λ l.
        let i = ((places b earlier-accepted).stands e l.at l.placed).0 in
        record { at = l.at; placed = same_place e ∙ l.placed; set = rw (same_row l.at i s h) l.set },
    λ l.
        let p = sym (same_place e) ∙ l.placed in
        let i = ((places b earlier-accepted).stands e l.at p).0 in
        record { at = l.at; placed = p; set = rw (same_row l.at i s h) at l.set },
  )

  pub is_earlier : (o : ℕ) → o < observers b
      → IsEarlier (machine b earlier-accepted) (observation b o) (machine c a) (observation c o) (λ s s'. s.0 ≡ s'.0)
  is_earlier o l = record {
    events = earlier-event;
    lows = ap low (same-observer o l);
    there = λ s. ((s.0, rw same-states s.1), refl);
    classes = λ {s} {s'} r. rw (r, same-column o (own_column b o l)) refl;
    fine_classes = λ {s} {s'} r. rw (r, same-fine o l) refl;
    forth = λ {e} {s} {t} {s'} r p. ((t.0, rw same-states t.1), rw r at ((earlier-leads e _ _ s.1).0 p), refl);
    back = λ {e} {s} {s'} {t'} r p.
        ((t'.0, rw same-states at t'.1), (earlier-leads e _ _ s.1).1 (rw (← r) at p), refl);
  }
