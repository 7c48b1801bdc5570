-- The fields of an accepted record lie in their ranges.
use Prim.Native.Nat.{ℕ, suc, ◌^◌, ◌≤◌, ◌<◌}
use mathlib.Core.Path.{◌≡◌, ap}
use mathlib.Core.Bool.{false}
use mathlib.Core.List.{List}
use mathlib.Core.Logic.{⊎_elim}
use native.Mathlib.Decide.{dec_lt, ℕ_discrete}
use native.Mathlib.Omega.{arith}
use lib.Dec.{T}
use lib.ListN.{length}
use borrow.Author.Tests.{leb-false, ltb-false}
use Rattle.bounded.specs.Search.{any}
use Rattle.bounded.proofs.Search.{or_left, or_right, any_none, true_not_false, passed}
use Rattle.words.specs.LittleEndian.{byte}
use Rattle.words.specs.Sets.{bit, exceeds}
use Rattle.words.proofs.Sets.{within_members}
use Rattle.level.specs.Level.{mislabelled}
use Rattle.level.proofs.Labels.{labelled}
use Rattle.part.specs.declared.format.Form.{Form}
use Rattle.part.specs.Format.{limited_kind, max_event_kind}
use Rattle.part.specs.Record.{kind, lead, columns, observers, observer, states, events, column, fine_column, identifier, event_kind}
use Rattle.part.specs.Record.{level, row}
use Rattle.part.specs.Frame.{Framed}
use Rattle.screening.specs.Rejections.{Accepted, misnumbered, misnumbered_at, unnumbered, misordered, misordered_at}
use Rattle.screening.specs.Rejections.{falls, unknown_at, mislabelled_part, mislabelled_observer, mislabelled_at, stray_bit}
use Rattle.screening.specs.Rejections.{row_strays, strays_at}
use Rattle.screening.specs.MachineFacts.{start_below}
use Rattle.screening.specs.Theorems.{Ranges, ObservationsRefined, ObservationsUnlimited}
use Rattle.screening.proofs.Accepted.{in_frame, not-misnumbered, not-misrefined, not-misordered, not-mislabelled}
use Rattle.screening.proofs.Accepted.{not-stray}
use Rattle.partition.specs.Sets.{Inside}
use Rattle.partition.proofs.Refined.{crosses-none}
use Rattle.part.proofs.Fields.{form-limited, own_fine, own_columns, whose_column, column-size}
use Rattle.screening.proofs.Rejections.{framed, levels_rise, rises_unless, fined}
use Rattle.screening.proofs.Numbered.{class-step, class-small, largest-class}
use Rattle.part.proofs.Rising.{Rises}

module _ (b : List ℕ) (a : Accepted b) where
  -- the record is whole, and its counts are in range
  pub frame : Framed b
  frame = framed b (in_frame b a)

  -- ---- the classes

  -- a column has a class for each state
  pub column-length : (j : ℕ) → j < columns b → length (column b j) ≡ states b
  column-length j l = column-size b j frame l

  classes-numbered : (o : ℕ) → o < observers b → unnumbered (column b o) ≡ false
  unfolding misnumbered misnumbered_at
  classes-numbered = any_none _ _ (not-misnumbered b a)

  -- a limited part has one observer
  only_observer : kind b ≡ limited_kind → (o : ℕ) → o < observers b → o ≡ 0
  only_observer e o l = let one = ap (λ (f : Form). f.observers) (form-limited (kind b) (lead b) e) in omega arith

  -- no fine class stands in two classes, and the fine classes are numbered by first appearance, as the classes are
  pub fine_inside : (o : ℕ) → o < observers b → Inside (states b) (byte (column b o)) (byte (fine_column b o))
  fine_inside o l =
      elim (ℕ_discrete (kind b) limited_kind) [
        | yes e ↦ crosses-none _ _ _ (rw (only_observer e o l) (fined b e (not-misrefined b a)).inside)
        | no n ↦ rw (own_fine b o n) (λ r s h k q. q)
      ]

  fine-numbered : (o : ℕ) → o < observers b → unnumbered (fine_column b o) ≡ false
  fine-numbered o l =
      elim (ℕ_discrete (kind b) limited_kind) [
        | yes e ↦ rw (only_observer e o l) (fined b e (not-misrefined b a)).numbered
        | no n ↦ rw (own_fine b o n) (classes-numbered o l)
      ]

  -- so every column is
  pub numbered : (j : ℕ) → j < columns b → unnumbered (column b j) ≡ false
  numbered j l =
      ⊎_elim (classes-numbered j)
      (λ w. rw w.2 (fine-numbered w.0 w.1))
      (whose_column b j frame.some_observer l)

  -- ---- the events

  -- neither test of 7 holds at a place
  in_place : (i : ℕ) → i < events b → misordered_at b i ≡ false
  unfolding misordered
  in_place = any_none _ _ (not-misordered b a)

  identifiers_rise : Rises (identifier b) (events b)
  unfolding misordered_at
  identifiers_rise =
      rises_unless (identifier b) (events b) (λ i h. or_left _ (unknown_at b i) (in_place i h))

  kinds : (i : ℕ) → i < events b → event_kind b i ≤ max_event_kind
  unfolding misordered_at unknown_at
  kinds i h = ltb-false _ _ (or_right (falls (identifier b) i) _ (in_place i h))

  -- ---- the levels

  pub observer-labelled : (o : ℕ) → o < observers b → mislabelled (observer b o) ≡ false
  unfolding mislabelled_part mislabelled_observer
  observer-labelled =
      any_none (mislabelled_observer b) _ (or_left _ (any (events b) (mislabelled_at b)) (not-mislabelled b a))

  pub event-labelled : (i : ℕ) → i < events b → mislabelled (level b i) ≡ false
  unfolding mislabelled_part mislabelled_at
  event-labelled = any_none (mislabelled_at b) _ (or_right (any (observers b) (mislabelled_observer b)) _
      (not-mislabelled b a))

  -- ---- the rows

  pub row_within : (i s : ℕ) → i < events b → s < states b → exceeds (states b) (row b i s) ≡ false
  unfolding stray_bit row_strays strays_at
  row_within i s h l = any_none _ _ (any_none _ _ (not-stray b a) i h) s l

  pub row_lt : (i s : ℕ) → i < events b → s < states b → row b i s < 2 ^ states b
  unfolding exceeds
  row_lt i s h l = leb-false _ _ (row_within i s h l)

  row_members : (i s t : ℕ) → i < events b → s < states b → T (bit (row b i s) t) → t < states b
  row_members i s t h l m =
      elim (dec_lt t (states b)) [
        | yes n ↦ n
        | no n ↦ absurd
            (true_not_false (passed _ m) (within_members _ _ (row_within i s h l) t (omega arith)))
      ]

pub ranges : Ranges
ranges b a = record {
  one_state = (frame b a).one_state;
  most_states = (frame b a).few.most_states;
  start_is_state = start_below b a;
  most_events = (frame b a).few.most_events;
  whole = (frame b a).whole;
  some_observer = (frame b a).some_observer;
  most_observers = omega (arith, own_columns b, (frame b a).narrow.columns);
  observers_rise = levels_rise b (in_frame b a);
  class_below = λ j s l h. omega (arith, class-small _ (numbered b a j l) s (omega (arith, column-length b a j l)));
  class_first = λ j l.
      omega (arith, class-small _ (numbered b a j l) 0 (omega (arith, column-length b a j l, (frame b a).one_state)));
  class_next = λ j s l h.
      let r = largest-class (column b j) s in
      (r.0, r.1, omega (arith, class-step _ (numbered b a j l) (suc s) (omega (arith, column-length b a j l))));
  fine_inside = λ o s t l. fine_inside b a o l s t;
  identifiers_rise = identifiers_rise b a;
  kinds = kinds b a;
  observers_labelled = λ o h. labelled _ (observer-labelled b a o h);
  events_labelled = λ i h. labelled _ (event-labelled b a i h);
  row_members = row_members b a;
}

pub observations_refined : ObservationsRefined
observations_refined b a o l s t = fine_inside b a o l s.0 t.0 s.1 t.1

pub observations_unlimited : ObservationsUnlimited
observations_unlimited b n o s t q = rw (own_fine b o n) q
