-- What each condition that does not hold tells of the record, and the tests of condition 4.
use Prim.Native.Nat.{ℕ, zero, suc, ◌-◌, ◌≤◌, ◌<◌}
use mathlib.Core.Path.{◌≡◌, refl, sym, ap, ◌∙◌}
use mathlib.Core.Bool.{true, false, ◌||◌}
use mathlib.Core.Logic.{◌⊎◌, inl, inr, ⊎_elim}
use mathlib.Core.List.{List}
use native.Mathlib.Decide.{ℕ_discrete}
use native.Mathlib.Omega.{arith}
use lib.ListN.{length}
use lib.Dec.{ltb, leb}
use borrow.Author.Tests.{ltb-false, leb-false, eqb-true, eq-eqb, ne_eqb, not-false, lt-ltb, le-ltb, lt-leb}
use Rattle.bounded.specs.Search.{any}
use Rattle.bounded.proofs.Search.{or_left, or_right, or-then, is_true, any_none}
use Rattle.words.specs.LittleEndian.{byte}
use Rattle.partition.specs.Classes.{crosses}
use Rattle.part.specs.Format.{single_kind, several_kind, limited_kind, least_listed, max_observers, max_states, max_events, lists_at, body_size}
use Rattle.part.specs.Record.{body_length, kind, lead, form_of, observers, observer, states, start, events, counts, column, fine_column}
use Rattle.part.specs.declared.format.Form.{Form}
use Rattle.part.specs.Frame.{Framed}
use Rattle.part.proofs.Fields.{Described, form_one, form-several, form-limited, form_allowed}
use Rattle.part.proofs.Rising.{Rises, rises}
use Rattle.screening.specs.Rejections.{too_short, wrong_length, wrong_kind, out_of_range, wrong_size}
use Rattle.screening.specs.Rejections.{falls, mislisted, unnumbered, misrefined}
use Rattle.screening.specs.Rejections.{frame_conditions, NoneOf}
use Rattle.screening.proofs.Accepted.{not-too_short, not-wrong_length, not-wrong_kind, not-out_of_range, not-wrong_size}
use Rattle.screening.proofs.Accepted.{not-mislisted}

-- 20 and 7 ask nothing of the first number of a sequence, and of each other one that it is above the one before it.
module _ (f : ℕ → ℕ) where
  pub falls-first : (i : ℕ) → i ≡ 0 → falls f i ≡ false
  unfolding falls
  falls-first i e = rw e refl

  pub falls-later : (i this last : ℕ) → (i ≡ 0 → ⊥) → this ≡ f i → last ≡ f (i - 1) → leb this last ≡ falls f i
  unfolding falls
  falls-later zero this last n e d = absurd (n refl)
  falls-later (suc i) this last n e d = let back : suc i - 1 ≡ i = omega arith in rw (e, d, back) refl

  -- where none falls, they rise; and the other way round
  pub rises_unless : (n : ℕ) → ((i : ℕ) → i < n → falls f i ≡ false) → Rises f n
  unfolding falls
  rises_unless n up = rises f n (λ i h. leb-false _ _ (up (suc i) h))

  pub not-falling : (n : ℕ) → ((i : ℕ) → suc i < n → f i < f (suc i)) → (i : ℕ) → i < n → falls f i ≡ false
  unfolding falls
  not-falling n up zero h = refl
  not-falling n up (suc i) h = lt-leb _ _ (up i h)

module _ (b : List ℕ) where
  pub long : too_short b ≡ false → 6 ≤ length b
  unfolding too_short
  long = ltb-false _ 6

  pub rest : wrong_length b ≡ false → body_length b ≡ length b - 6
  unfolding wrong_length
  rest e = eqb-true _ _ (not-false _ e)

  -- What 4 leaves: a body of four bytes or more, and the counts in their ranges.
  pub record Ranged : Type 0 where
    pub body : 4 ≤ body_length b
    pub one_state : 1 ≤ states b
    pub most_states : states b ≤ max_states
    pub start_below : start b < states b
    pub most_events : events b ≤ max_events

  pub ranged : out_of_range b ≡ false → Ranged
  unfolding out_of_range
  ranged e = record {
    body = search (e, or_left, ltb-false);
    one_state = search (e, or_left, or_right, ltb-false);
    most_states = search (e, or_left, or_right, ltb-false);
    start_below = search (e, or_left, or_right, leb-false);
    most_events = search (e, or_right, ltb-false);
  }

  -- A record that does not have these is out of range.
  pub range_broken : (Ranged → ⊥) → out_of_range b ≡ true
  range_broken h = is_true _ (λ e. h (ranged e))

  -- The first four tests of 4 fail, and the last decides.
  pub last_range_test : 4 ≤ body_length b → 1 ≤ states b → states b ≤ max_states → start b < states b
      → out_of_range b ≡ ltb max_events (events b)
  unfolding out_of_range
  last_range_test h1 h2 h3 h4 =
      rw (le-ltb _ 4 h1, le-ltb _ 1 h2, le-ltb _ _ h3, lt-leb _ _ h4)

  pub header_read : too_short b ≡ false → wrong_length b ≡ false → out_of_range b ≡ false → lists_at ≤ length b
  header_read e1 e2 e4 = let six = long e1 in let after = rest e2 in let c = ranged e4 in omega arith

  -- What 3 leaves: kind 1, kind 2 or kind 3.
  abbrev pub KnownKind : Type 0
  KnownKind = (kind b ≡ single_kind) ⊎ ((kind b ≡ several_kind) ⊎ (kind b ≡ limited_kind))

  pub kind_is : wrong_kind b ≡ false → KnownKind
  unfolding wrong_kind
  kind_is e =
      elim (ℕ_discrete (kind b) single_kind) [
        | yes t ↦ inl t
        | no f ↦ elim (ℕ_discrete (kind b) several_kind) [
          | yes t ↦ inr (inl t)
          | no g ↦ inr (inr (eqb-true _ _ (sym (or-then _ _ (or-then _ _ (ne_eqb _ single_kind f) ∙ ne_eqb _ several_kind g))
              ∙ not-false _ e)))
        ]
      ]

  -- The tests of 3, one by one, those of 20 and those of 21.
  pub kind_known : KnownKind → wrong_kind b ≡ false
  unfolding wrong_kind
  kind_known (inl e) = rw e refl
  kind_known (inr (inl e)) = rw e refl
  kind_known (inr (inr e)) = rw e refl

  pub no-fine : (kind b ≡ limited_kind → ⊥) → misrefined b ≡ false
  unfolding misrefined
  no-fine n = rw (ne_eqb (kind b) limited_kind n)

  module _ (e : kind b ≡ limited_kind) where
    pub fine-unnumbered : unnumbered (fine_column b 0) ≡ true → misrefined b ≡ true
    unfolding misrefined
    fine-unnumbered t = rw (eq-eqb (kind b) limited_kind e, t)

    pub last-fine_test : unnumbered (fine_column b 0) ≡ false
        → misrefined b ≡ crosses (states b) (byte (column b 0)) (byte (fine_column b 0))
    unfolding misrefined
    last-fine_test f = rw (eq-eqb (kind b) limited_kind e, f)

    -- what 21 leaves
    pub record Fined : Type 0 where
      pub numbered : unnumbered (fine_column b 0) ≡ false
      pub inside : crosses (states b) (byte (column b 0)) (byte (fine_column b 0)) ≡ false

    pub fined : misrefined b ≡ false → Fined
    unfolding misrefined
    fined f =
        let out : (unnumbered (fine_column b 0)
        || crosses (states b) (byte (column b 0)) (byte (fine_column b 0))) ≡ false = rw (eq-eqb (kind b) limited_kind e) at f in
        record { numbered = or_left _ _ out; inside = or_right (unnumbered (fine_column b 0)) _ out }

  pub no_list : (kind b ≡ several_kind → ⊥) → mislisted b ≡ false
  unfolding mislisted
  no_list n = rw (ne_eqb (kind b) several_kind n)

  module _ (e : kind b ≡ several_kind) where
    pub too_few : observers b < least_listed → mislisted b ≡ true
    unfolding mislisted
    too_few l = rw (eq-eqb (kind b) several_kind e, lt-ltb (observers b) least_listed l)

    pub too_many : least_listed ≤ observers b → max_observers < observers b → mislisted b ≡ true
    unfolding mislisted
    too_many l m =
        rw (
          eq-eqb (kind b) several_kind e,
          le-ltb (observers b) least_listed l,
          lt-ltb max_observers (observers b) m,
        )

    pub last_list_test : least_listed ≤ observers b → observers b ≤ max_observers
        → mislisted b ≡ any (observers b) (falls (observer b))
    unfolding mislisted
    last_list_test l m =
        rw (
          eq-eqb (kind b) several_kind e,
          le-ltb (observers b) least_listed l,
          le-ltb max_observers (observers b) m,
        )

    -- the first byte is the number of the observers
    pub first-counts : observers b ≡ lead b
    first-counts = ap (λ (f : Form). f.observers) (form-several (kind b) (lead b) e)

    pub several_described : least_listed ≤ observers b → observers b ≤ max_observers → Described (kind b) (lead b)
    several_described l m =
        inr (inl (record { kind_is = e; least = omega (arith, first-counts); most = omega (arith, first-counts) }))

    -- what 20 leaves: two to four observers, whose levels rise
    record Listed : Type 0 where
      least : least_listed ≤ observers b
      most : observers b ≤ max_observers
      up : Rises (observer b) (observers b)

    listed : mislisted b ≡ false → Listed
    unfolding mislisted
    listed f =
        let out : (ltb (observers b) least_listed || ltb max_observers (observers b)
        || any (observers b) (falls (observer b))) ≡ false = rw (eq-eqb (kind b) several_kind e) at f in
        record {
          least = search (out, or_left, ltb-false);
          most = search (out, or_left, or_right, ltb-false);
          up = rises_unless _ _ (any_none _ _ (or_right (ltb (observers b) least_listed
              || ltb max_observers (observers b)) _ out));
        }

  -- 1 to 5 do not hold, and the kind has such a first byte.
  pub framed_by : too_short b ≡ false → wrong_length b ≡ false → out_of_range b ≡ false
      → wrong_size b ≡ false → Described (kind b) (lead b) → Framed b
  unfolding wrong_size
  framed_by e1 e2 e4 e5 known =
      let six = long e1 in
      let after = rest e2 in
      let size : body_length b ≡ body_size (counts b) = eqb-true _ _ (not-false _ e5) in
      let c = ranged e4 in
      let form = form_allowed (kind b) (lead b) known in
      record {
        whole = omega arith;
        one_state = c.one_state;
        some_observer = form.some_observer;
        few = record {
          most_listed = omega (arith, form.narrow.lists);
          most_columns = omega (arith, form.narrow.columns);
          most_states = c.most_states;
          most_events = c.most_events;
        };
        narrow = form.narrow;
      }

-- What the size of a record is read under.
pub ruleset sized = (long, header_read, ranged)

module _ (b : List ℕ) (a : NoneOf frame_conditions b) where
  list_in_order : (e : kind b ≡ several_kind) → Listed b e
  list_in_order e = listed b e (not-mislisted b a)

  pub well_described : Described (kind b) (lead b)
  well_described =
      ⊎_elim inl
      (⊎_elim
      (λ e. several_described b e (list_in_order e).least (list_in_order e).most)
      (λ e. inr (inr e)))
      (kind_is b (not-wrong_kind b a))

  -- the levels rise; that of an only observer does
  pub levels_rise : Rises (observer b) (observers b)
  levels_rise =
      ⊎_elim
      (λ e. alone (form_one (kind b) (lead b) e) refl)
      (⊎_elim
      (λ e. (list_in_order e).up)
      (λ e. alone (form-limited (kind b) (lead b) e) refl))
      (kind_is b (not-wrong_kind b a))
    where
      alone : {f : Form} → form_of b ≡ f → f.observers ≡ 1 → Rises (observer b) (observers b)
      alone e one i j l h = absurd (let count = ap (λ (f : Form). f.observers) e in omega arith)

  pub framed : Framed b
  framed = framed_by b (not-too_short b a) (not-wrong_length b a) (not-out_of_range b a) (not-wrong_size b a)
      well_described
