-- The laws of the walk over two records' entries.
use Prim.Native.Nat.{ℕ, suc, ◌+◌, ◌≤◌, ◌<◌}
use mathlib.Core.Path.{◌≡◌, refl, sym, ap, ◌∙◌, subst}
use mathlib.Core.Logic.{⊎_elim}
use mathlib.Core.Bool.{true, false}
use mathlib.Core.List.{List, [], ◌∷◌, ◌++◌, append-nil}
use native.Mathlib.Nat.{zero-add}
use native.Mathlib.Decide.{dec_lt, ℕ_discrete}
use native.Mathlib.Omega.{arith}
use borrow.Author.Tests.{le-ltb, lt-ltb, le-leb, lt-leb, eq-eqb, ne_eqb}
use lib.Dec.{leb}
use lib.ListN.{length-append}
use lib.ListN.{length, take, drop, drop_of_length-le, length-drop}
use lib.Seq.{drop-cons, get_or-take, get_or-drop, length-take-le, append_snoc}
use Rattle.bounded.proofs.Search.{true_not_false, true_or_false}
use Rattle.words.specs.LittleEndian.{byte, number}
use Rattle.words.proofs.LittleEndian.{number_same}
use Rattle.part.specs.Record.{events, entry_at, identifier}
use Rattle.part.specs.Frame.{Framed}
use Rattle.composite.specs.Merge.{merge}
use Rattle.composite.specs.Joined as joined
use Rattle.composite.specs.Joined.{identifiers, merged}
use Rattle.composite.specs.Walk.{entry, comes_first, next_entry, past}
use Rattle.composite.proofs.MergeLaws.{
  merge_none,
  merge-first,
  merge-second,
  merge_both,
  length-identifiers,
  identifiers_at,
}

module _ (a b : List ℕ) (i j : ℕ) where
  pub first_ended : events a ≤ i → comes_first a b i j ≡ false
  unfolding comes_first
  first_ended h = rw (le-ltb i (events a) h)

  pub second_ended : i < events a → events b ≤ j → comes_first a b i j ≡ true
  unfolding comes_first
  second_ended h l = rw (lt-ltb i (events a) h, le-leb (events b) j l)

  pub both_left : i < events a → j < events b → comes_first a b i j ≡ leb (identifier a i) (identifier b j)
  unfolding comes_first
  both_left h l = rw (lt-ltb i (events a) h, lt-leb (events b) j l)

  -- the record that the next entry comes from has one
  pub first_has : comes_first a b i j ≡ true → i < events a
  first_has t = elim (dec_lt i (events a)) [ yes h ↦ h | no h ↦ absurd (true_not_false t (first_ended (omega arith))) ]

  pub second_has : comes_first a b i j ≡ false → i ≤ events a → j ≤ events b → i + j < events a + events b
      → j < events b
  second_has f h k l =
      elim (dec_lt j (events b)) [
        | yes m ↦ m
        | no m ↦ absurd
            (true_not_false (second_ended (omega arith) (omega arith)) f)
      ]

module _ (b : List ℕ) (i e : ℕ) where
  pub past-ended : events b ≤ i → past b i e ≡ i
  unfolding past
  past-ended h = rw (le-ltb i (events b) h)

  pub past-other : (identifier b i ≡ e → ⊥) → past b i e ≡ i
  unfolding past
  past-other n =
      elim (dec_lt i (events b))
      [ yes h ↦ rw (lt-ltb i (events b) h, ne_eqb (identifier b i) e n) | no h ↦ past-ended (omega arith) ]

  pub past_same : i < events b → identifier b i ≡ e → past b i e ≡ suc i
  unfolding past
  past_same h q = rw (lt-ltb i (events b) h, eq-eqb (identifier b i) e q)

  pub past_le : i ≤ events b → past b i e ≤ events b
  past_le h =
      elim (dec_lt i (events b)) [
        | yes l ↦ elim (ℕ_discrete (identifier b i) e)
            [ yes q ↦ omega (arith, past_same l q) | no n ↦ omega (arith, past-other n) ]
        | no l ↦ omega (arith, past-ended (omega arith))
      ]

-- ---- entries

module _ (b : List ℕ) (f : Framed b) (i : ℕ) (l : i < events b) where
  pub entry-inside : entry_at b i + 4 ≤ length b
  unfolding entry_at
  entry-inside = let whole = f.whole in omega arith

  pub length-entry : length (entry b i) ≡ 4
  unfolding entry
  length-entry = length-take-le 4 (drop (entry_at b i) b) (omega (arith, length-drop (entry_at b i) b, entry-inside))

  pub entry-identifier : number 2 (entry b i) 0 ≡ identifier b i
  unfolding entry identifier
  entry-identifier =
      number_same 2 (take 4 (drop (entry_at b i) b)) b 0 (entry_at b i)
      (λ k h.
      ap (λ (x : ℕ). byte (take 4 (drop (entry_at b i) b)) x) (zero-add k)
      ∙ get_or-take 4 (drop (entry_at b i) b) k 0 (omega arith)
      ∙ get_or-drop (entry_at b i) b k 0)

-- What is left of the identifiers, from place i on.
left : (b : List ℕ) (i : ℕ) → i < events b → drop i (identifiers b) ≡ identifier b i ∷ drop (suc i) (identifiers b)
left b i l =
    drop-cons (identifiers b) i 0 (omega (arith, length-identifiers b))
    ∙ ap (λ (x : ℕ). x ∷ drop (suc i) (identifiers b)) (identifiers_at b i l)

ended : (b : List ℕ) (i : ℕ) → events b ≤ i → drop i (identifiers b) ≡ []
ended b i h = drop_of_length-le (identifiers b) {i = i} (omega (arith, length-identifiers b))

-- ---- a turn of the walk

-- The next entry has the identifier e; behind it the merged list goes on at the places past e.
pub record Turn (a b : List ℕ) (i j e : ℕ) : Type 0 where
  pub rest : merge (drop i (identifiers a)) (drop j (identifiers b))
      ≡ e ∷ merge (drop (past a i e) (identifiers a)) (drop (past b j e) (identifiers b))
  pub further : i + j < past a i e + past b j e

module _ (a b : List ℕ) (i j : ℕ) where
  -- from A alone, where B's next identifier is larger
  turn-first : i < events a → j < events b → identifier a i < identifier b j → Turn a b i j (identifier a i)
  turn-first h k l =
      let pa = past_same a i (identifier a i) h refl in
      let pb = past-other b j (identifier a i) (λ q. omega arith) in
      let xs = left a i h in
      let ys = left b j k in
      let m =
      merge-first (identifier a i) (identifier b j) (drop (suc i) (identifiers a))
      (drop (suc j) (identifiers b)) l in
      record { rest = cc; further = omega arith }

  turn-second : i < events a → j < events b → identifier b j < identifier a i → Turn a b i j (identifier b j)
  turn-second h k l =
      let pa = past-other a i (identifier b j) (λ q. omega arith) in
      let pb = past_same b j (identifier b j) k refl in
      let xs = left a i h in
      let ys = left b j k in
      let m =
      merge-second (identifier a i) (identifier b j) (drop (suc i) (identifiers a))
      (drop (suc j) (identifiers b)) l in
      record { rest = cc; further = omega arith }

  turn_both : i < events a → j < events b → identifier a i ≡ identifier b j → Turn a b i j (identifier a i)
  turn_both h k q =
      let pa = past_same a i (identifier a i) h refl in
      let pb = past_same b j (identifier a i) k (sym q) in
      let xs = left a i h in
      let ys = left b j k in
      let m = merge_both (identifier a i) (drop (suc i) (identifiers a)) (drop (suc j) (identifiers b)) in
      record { rest = cc; further = omega arith }

  -- from the only one that has entries left
  turn-rest : i < events a → events b ≤ j → Turn a b i j (identifier a i)
  turn-rest h k =
      let pa = past_same a i (identifier a i) h refl in
      let pb = past-ended b j (identifier a i) k in
      let xs = left a i h in
      let ys = ended b j k in
      let m = merge_none (drop i (identifiers a)) in
      let n = merge_none (drop (suc i) (identifiers a)) in
      record { rest = cc; further = omega arith }

  turn_last : events a ≤ i → j < events b → Turn a b i j (identifier b j)
  unfolding merge
  turn_last h k =
      let pa = past-ended a i (identifier b j) h in
      let pb = past_same b j (identifier b j) k refl in
      let xs = ended a i h in
      let ys = left b j k in
      record { rest = rw (pa, pb, xs) ys; further = omega arith }

module _ (a b : List ℕ) (f : Framed a) (g : Framed b) (i j : ℕ) where
  first_next : comes_first a b i j ≡ true → number 2 (next_entry a b i j) 0 ≡ identifier a i
  unfolding next_entry
  first_next t = rw t (entry-identifier a f i (first_has a b i j t))

  second_next : comes_first a b i j ≡ false → j < events b → number 2 (next_entry a b i j) 0 ≡ identifier b j
  unfolding next_entry
  second_next t l = rw t (entry-identifier b g j l)

  turn_on : (e : ℕ) → number 2 (next_entry a b i j) 0 ≡ e → Turn a b i j e
      → Turn a b i j (number 2 (next_entry a b i j) 0)
  turn_on e q t = subst (Turn a b i j) (sym q) t

  pub turn : i ≤ events a → j ≤ events b → i + j < events a + events b
      → Turn a b i j (number 2 (next_entry a b i j) 0)
  turn hi hj h =
      elim (dec_lt i (events a)) [
        | yes l ↦ elim (dec_lt j (events b)) [
          | yes k ↦ both l k
          | no k ↦ turn_on _ (first_next (second_ended a b i j l (omega arith))) (turn-rest a b i j l (omega arith))
        ]
        | no l ↦ turn_on _ (second_next (first_ended a b i j (omega arith)) (omega arith))
            (turn_last a b i j (omega arith) (omega arith))
      ]
    where
      both : i < events a → j < events b → Turn a b i j (number 2 (next_entry a b i j) 0)
      both l k =
          elim (dec_lt (identifier b j) (identifier a i)) [
            | yes s ↦ turn_on _ (second_next (both_left a b i j l k ∙ lt-leb _ _ s) k) (turn-second a b i j l k s)
            | no s ↦ turn_on _ (first_next
                (both_left a b i j l k ∙ le-leb (identifier a i) (identifier b j) (omega arith)))
                (elim (ℕ_discrete (identifier a i) (identifier b j))
                [ yes q ↦ turn_both a b i j l k q | no n ↦ turn-first a b i j l k (omega arith) ])
          ]

  pub length_next : i ≤ events a → j ≤ events b → i + j < events a + events b → length (next_entry a b i j) ≡ 4
  unfolding next_entry
  length_next hi hj h =
      ⊎_elim
      (λ t. rw t (length-entry a f i (first_has a b i j t)))
      (λ t. rw t (length-entry b g j (second_has a b i j t hi hj h)))
      (true_or_false (comes_first a b i j))

-- ---- the whole walk

-- The identifiers are those of the merged list before the places i and j.
pub record Walked (a b identifiers : List ℕ) (i j : ℕ) : Type 0 where
  pub within : (i ≤ events a) × (j ≤ events b) × (length identifiers ≤ i + j)
  pub so_far : identifiers ++ merge (drop i (joined.identifiers a)) (drop j (joined.identifiers b)) ≡ merged a b

module _ {a b xs : List ℕ} where
  pub walked_none : xs ≡ [] → Walked a b xs 0 0
  unfolding merged
  walked_none e = record {
    within = (omega arith, omega arith, rw e (omega arith));
    so_far = rw e refl;
  }

  -- There is room for one more.
  pub walked_room : {i j : ℕ} → Framed a → Framed b → Walked a b xs i j → i + j < events a + events b → length xs < 64
  walked_room f g w h = omega (arith, f.few.most_events, g.few.most_events, w.within)

  pub walked_more : {i j e i' j' : ℕ} {ys : List ℕ} → Framed a → Framed b → Walked a b xs i j
      → i + j < events a + events b
      → e ≡ number 2 (next_entry a b i j) 0 → ys ≡ xs ++ e ∷ [] → i' ≡ past a i e → j' ≡ past b j e
      → Walked a b ys i' j' × (i + j < i' + j')
  walked_more {i} {j} {e} f g w h q p qi qj =
      let n = w.within in
      let t : Turn a b i j e = subst (Turn a b i j) (sym q) (turn a b f g i j n.0 n.1 h) in (
        record {
          within = (
            omega (arith, past_le a i e n.0),
            omega (arith, past_le b j e n.1),
            rw p (omega (arith, t.further, length-append xs (e ∷ []))),
          );
          so_far = rw (p, qi, qj)
              (append_snoc xs e
              (merge (drop (past a i e) (identifiers a)) (drop (past b j e) (identifiers b)))
              ∙ ap (λ (l : List ℕ). xs ++ l) (sym t.rest)
              ∙ w.so_far);
        },
        omega (arith, t.further),
      )

  pub walked_all : {i j : ℕ} → Framed a → Framed b → Walked a b xs i j → events a + events b ≤ i + j
      → xs ≡ merged a b
  walked_all {i} {j} f g w h =
      let first = ended a i (omega (arith, w.within)) in
      let second = ended b j (omega (arith, w.within)) in
      let rest : merge (drop i (identifiers a)) (drop j (identifiers b)) ≡ [] = rw (first, second) (merge_none []) in
      sym (append-nil xs) ∙ ap (λ (l : List ℕ). xs ++ l) (sym rest) ∙ w.so_far
