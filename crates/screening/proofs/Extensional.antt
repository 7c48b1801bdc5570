-- Two accepted records are equal exactly when they say the same.
use Prim.Native.Nat.{ℕ, zero, suc, ◌+◌, ◌≤◌, ◌<◌}
use mathlib.Core.Path.{◌≡◌, refl, sym, ap, ◌∙◌, subst}
use mathlib.Core.Bool.{Bool, true, false}
use mathlib.Core.List.{List}
use mathlib.Core.Option.{some}
use mathlib.Core.Logic.Iff
use mathlib.Core.Logic.{◌↔◌, ◌⊎◌, inl, inr, ⊎_elim}
use native.Mathlib.Omega.{arith}
use lib.Dec.{T}
use Rattle.bounded.proofs.Search.{passed}
use Rattle.machine.specs.Machine.{Kind, input, output, internal}
use Rattle.words.proofs.Sets.{same_members}
use Rattle.words.specs.LittleEndian.{byte}
use Rattle.part.specs.declared.format.Form.{Form}
use Rattle.part.specs.Format.{header, max_event_kind, several_observers}
use Rattle.part.specs.Record.{kind, lead, form_of, class, observers, observer, listed_level, states, events, identifier, event_kind, level, row}
use Rattle.screening.specs.Rejections.{Accepted}
use Rattle.part.specs.Frame.{fields_of}
use Rattle.part.specs.Events.{kind_of, place, event_of}
use Rattle.screening.specs.Theorems.{Same, Extensionality}
use Rattle.part.proofs.Rising.{Within, same_sequence}
use Rattle.screening.proofs.Accepted.{in_frame}
use Rattle.part.proofs.Fields.{form_one, form-several, form-limited, whose_column}
use Rattle.screening.proofs.Rejections.{well_described}
use Rattle.screening.proofs.Ranges.{ranges, row_lt}
use Rattle.screening.proofs.LayoutLaws.{layout_fields, layout_cong}
use Rattle.screening.proofs.Places.{places}
use Rattle.part.proofs.Places.{event_at, event-placed, leads_at}

-- The byte of a kind.
kind_byte : Kind → ℕ
kind_byte input = 0
kind_byte output = 1
kind_byte internal = 2

kind_byte_of : (k : ℕ) → k ≤ max_event_kind → kind_byte (kind_of k) ≡ k
unfolding kind_of kind_byte
kind_byte_of zero h = refl
kind_byte_of (suc zero) h = refl
kind_byte_of (suc (suc zero)) h = refl
kind_byte_of (suc (suc (suc k))) h = absurd (omega arith)

-- Two tests that pass together are equal.
same_test : (p q : Bool) → T p ↔ T q → p ≡ q
same_test true q h = sym (passed q (h.0 tt))
same_test false true h = absurd (h.1 tt)
same_test false false h = refl

-- What is an event of one is an event of the other.
identifiers-within : (a b : List ℕ) → Accepted a → Accepted b → ((e : ℕ) → event_of a e ≡ event_of b e)
    → Within (identifier a) (events a) (identifier b) (events b)
identifiers-within a b ok ok' maps i h =
    let e = identifier a i in
    let w = event-placed b e _ _ (sym (maps e) ∙ event_at a e i ((places a ok).found i h)) in
    let s = (places b ok').stands e w.0 w.1 in
    (w.0, s.0, sym s.1)

module _ (a b : List ℕ) (ok : Accepted a) (ok' : Accepted b) (same : Same a b) where
  -- as many events, with the same identifiers
  same-identifiers : (events a ≡ events b) × ((i : ℕ) → i < events a → identifier a i ≡ identifier b i)
  same-identifiers =
      same_sequence _ _ _ _ (ranges a ok).identifiers_rise (ranges b ok').identifiers_rise
      (identifiers-within a b ok ok' same.event_maps)
      (identifiers-within b a ok' ok (λ e. sym (same.event_maps e)))

  module _ (i : ℕ) (h : i < events a) where
    h' : i < events b
    h' = rw same-identifiers.0 at h

    placed : place a (identifier a i) ≡ some i
    placed = (places a ok).found i h

    -- the event of one stands at the same place in the other
    placed' : place b (identifier a i) ≡ some i
    placed' = rw (same-identifiers.1 i h) ((places b ok').found i h')

    same-event : (kind_of (event_kind a i) ≡ kind_of (event_kind b i)) × (level a i ≡ level b i)
    same-event =
        let p = event_at a _ i placed in
        let q = event_at b _ i placed' in
        let r = same.event_maps (identifier a i) in
        (cc, cc)

    same_kind : event_kind a i ≡ event_kind b i
    same_kind = sym (kind_byte_of _ ((ranges a ok).kinds i h)) ∙ ap kind_byte same-event.0
        ∙ kind_byte_of _ ((ranges b ok').kinds i h')

    same_row : (s : ℕ) → s < states a → row a i s ≡ row b i s
    same_row s l =
        same_members _ _ _
        (row_lt a ok i s h l)
        (rw same.counts (row_lt b ok' i s h' (rw same.counts at l)))
        (λ t n.
        same_test _ _ (Iff.trans (Iff.symm (leads_at a _ i s t placed))
        (Iff.trans (same.steps (identifier a i) s t l n) (leads_at b _ i s t placed'))))

-- ---- first byte and list, by the kind and the observers

-- Kinds 1 and 3: there is one observer, the first byte is its level, and nothing is listed.
record OneObserver (b : List ℕ) : Type 0 where
  alone : observers b ≡ 1
  first : lead b ≡ observer b 0
  unlisted : (form_of b).listed ≡ 0

-- Kind 2: there are at least two, the first byte is their number, and their levels are listed.
record SeveralObservers (b : List ℕ) : Type 0 where
  several : 2 ≤ observers b
  first : lead b ≡ observers b
  all_listed : (form_of b).listed ≡ observers b
  list : (o : ℕ) → listed_level b o ≡ observer b o

one_observer_in : (b : List ℕ) {f : Form} → form_of b ≡ f → f.observers ≡ 1 → f.levels ≡ header → f.listed ≡ 0 → OneObserver b
unfolding lead observer
one_observer_in b {f} form one place none = record {
  alone = ap (λ (g : Form). g.observers) form ∙ one;
  first = ap (λ (l : ℕ). byte b (l + 0)) (sym (ap (λ (g : Form). g.levels) form ∙ place));
  unlisted = ap (λ (g : Form). g.listed) form ∙ none;
}

by_kind : (b : List ℕ) → Accepted b → OneObserver b ⊎ SeveralObservers b
unfolding lead observer listed_level
by_kind b a = ⊎_elim
    (λ e. inl (one_observer_in b (form_one (kind b) (lead b) e) refl refl refl))
    (⊎_elim
    (λ w.
    let form : form_of b ≡ several_observers (lead b) = form-several (kind b) (lead b) w.kind_is in
    let count : observers b ≡ lead b = ap (λ (f : Form). f.observers) form in
    inr (record {
      several = omega (arith, w.least);
      first = sym count;
      all_listed = ap (λ (f : Form). f.listed) form ∙ sym count;
      list = λ o. ap (λ (f : Form). byte b (f.levels + o)) (sym form);
    }))
    (λ e. inl (one_observer_in b (form-limited (kind b) (lead b) e) refl refl refl)))
    (well_described b (in_frame b a))

-- What they say of them.
record SameHead (a b : List ℕ) : Type 0 where
  leads : lead a ≡ lead b
  lists : (o : ℕ) → o < (form_of b).listed → listed_level a o ≡ listed_level b o

same_head : (a b : List ℕ) → Accepted a → Accepted b → observers a ≡ observers b
    → ((o : ℕ) → o < observers b → observer a o ≡ observer b o) → SameHead a b
same_head a b ok ok' counts levels = go (by_kind a ok) (by_kind b ok')
  where
    go : OneObserver a ⊎ SeveralObservers a → OneObserver b ⊎ SeveralObservers b → SameHead a b
    go (inl x) (inl y) = record {
      leads = x.first ∙ levels 0 (omega (arith, y.alone)) ∙ sym y.first;
      lists = λ o l. absurd (omega (arith, y.unlisted));
    }
    go (inl x) (inr y) = absurd (omega (arith, x.alone, y.several))
    go (inr x) (inl y) = absurd (omega (arith, x.several, y.alone))
    go (inr x) (inr y) = record {
      leads = x.first ∙ counts ∙ sym y.first;
      lists = λ o l. x.list o ∙ levels o (omega (arith, y.all_listed)) ∙ sym (y.list o);
    }

-- A column of a record is that of an observer, or its fine one.
same-columns : (a b : List ℕ) → Accepted a → (same : Same a b) → form_of a ≡ form_of b
    → (j s : ℕ) → j < (form_of a).columns → s < states a → class a j s ≡ class b j s
same-columns a b ok same form j s h l =
    ⊎_elim
    (λ k. same.classes j s k l)
    (λ w.
    let finer : (form_of a).finer ≡ (form_of b).finer = ap (λ (f : Form). f.finer) form in
    rw w.2 (same.fine_classes w.0 s w.1 l ∙ rw finer refl))
    (whose_column a j (ranges a ok).some_observer h)

same_self : (a : List ℕ) → Same a a
same_self a = record {
  kinds = refl;
  observer_counts = refl;
  levels = λ o h. refl;
  counts = refl;
  starts = refl;
  classes = λ o s h l. refl;
  fine_classes = λ o s h l. refl;
  event_maps = λ e. refl;
  steps = λ e s t h l. Iff.rfl;
}

pub extensionality : Extensionality
extensionality a b bytes bytes' ok ok' = (
  λ e. subst (λ (x : List ℕ). Same a x) e (same_self a),
  λ same.
      let head = same_head b a ok' ok (sym same.observer_counts) (λ o l. sym (same.levels o l)) in
      let form : form_of a ≡ form_of b = let k = same.kinds in let l = head.leads in cc in
      sym (layout_fields a bytes ok)
      ∙ sym (layout_cong (fields_of b) (fields_of a) (record {
        kinds = sym same.kinds;
        leads = head.leads;
        tables = record {
          counts = sym same.counts;
          starts = sym same.starts;
          event-counts = sym (same-identifiers a b ok ok' same).0;
          identifiers = λ i h. sym ((same-identifiers a b ok ok' same).1 i h);
          event-kinds = λ i h. sym (same_kind a b ok ok' same i h);
          levels = λ i h. sym (same-event a b ok ok' same i h).1;
          rows = λ i s h l. sym (same_row a b ok ok' same i h s l);
        };
        lists = head.lists;
        classes = λ j s h l. sym (same-columns a b ok same form j s h l);
      }))
      ∙ layout_fields b bytes' ok',
)
