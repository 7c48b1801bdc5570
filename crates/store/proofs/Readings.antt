-- What Count and Part read off a walk: the records stand at the start of the shelf, one behind the other.
use Prim.Native.Nat.{ℕ, zero, suc, ◌≤◌, ◌<◌}
use mathlib.Core.Path.{◌≡◌, refl, sym, ap, ◌∙◌}
use mathlib.Core.List.{List, [], ◌∷◌, ◌++◌, flatten, append_assoc}
use mathlib.Core.Option.{Option, none, some, map}
use native.Mathlib.Decide.{dec_lt}
use native.Mathlib.Omega.{arith}
use lib.ListN.{length, take, drop, get_or, length-append, take-append-drop, get_or-eq_default}
use lib.Seq.{length-take-le}
use Rattle.store.specs.Answer.{gives, refused}
use Rattle.store.specs.Walk.{Front, end_record, record_of, neither, front, walk_at_most, walk, records}
use Rattle.store.specs.Found.{Ends}
use Rattle.store.specs.Reading.{count, part, place}
use Rattle.store.specs.Demand.{Begins}
use Rattle.store.specs.Theorems.{NoPart, no_end, no_record, PartEmptyExactly, PartStands}
use Rattle.store.proofs.Each.{Each, each_at}
use Rattle.store.proofs.Fronts.{record-whole}
use Rattle.store.proofs.Leading.{flatten-at, flatten-within}

-- ---- Count

pub count-some : (s : List ℕ) (n at : ℕ) → Ends s n at → gives n ≡ count s
unfolding count
count-some s n at w = rw (w.ends, count) (ap gives w.many)

pub count_none : (s : List ℕ) → walk s ≡ none → refused 12 ≡ count s
unfolding count
count_none s e = rw (e, count)

-- ---- what holds of the records of a walk

-- Q holds of bytes and what a walk of them finds, if it does at an end record, and before a record where it does
-- behind it.
module _ (Q : List ℕ → List (List ℕ) → Type 0) (at_end : (s : List ℕ) → Q s [])
    (before : (s : List ℕ) (qs : List (List ℕ)) (n : ℕ) → front s ≡ record_of n → Q (drop n s) qs
    → Q s (take n s ∷ qs)) where
  found-step : (k : ℕ) (s : List ℕ) (rs : List (List ℕ)) (f : Front) → front s ≡ f
      → ((t : List ℕ) (qs : List (List ℕ)) → walk_at_most k t ≡ some qs → Q t qs)
      → walk_at_most (suc k) s ≡ some rs
      → Q s rs
  unfolding walk_at_most
  found-step k s rs end_record e more h =
      let found : some [] ≡ some rs = rw (e, walk_at_most) at h in
      let all : [] ≡ rs = cc in
      rw (← all) (at_end s)
  found-step k s rs neither e more h =
      let found : none ≡ some rs = rw (e, walk_at_most) at h in
      let z : ◌≡◌ {A = ℕ} 0 1 = cc in
      absurd (omega arith)
  found-step k s rs (record_of n) e more h = go (walk_at_most k (drop n s)) refl (rw (e, walk_at_most) at h)
    where
      go : (o : Option (List (List ℕ))) → walk_at_most k (drop n s) ≡ o
          → map (λ (qs : List (List ℕ)). take n s ∷ qs) o ≡ some rs → Q s rs
      go none q found = let z : ◌≡◌ {A = ℕ} 0 1 = cc in absurd (omega arith)
      go (some qs) q found = let all : take n s ∷ qs ≡ rs = cc in rw (← all) (before s qs n e (more (drop n s) qs q))

  found_at_most : (k : ℕ) (s : List ℕ) (rs : List (List ℕ)) → walk_at_most k s ≡ some rs → Q s rs
  unfolding walk_at_most
  found_at_most zero s rs h = let z : ◌≡◌ {A = ℕ} 0 1 = cc in absurd (omega arith)
  found_at_most (suc k) s rs h = found-step k s rs (front s) refl (λ t qs q. found_at_most k t qs q) h

  walk-found : (s : List ℕ) (rs : List (List ℕ)) → walk s ≡ some rs → Q s rs
  unfolding walk
  walk-found s rs h = found_at_most (suc (length s)) s rs h

-- They stand at the start.
walk_begins : (s : List ℕ) (rs : List (List ℕ)) → walk s ≡ some rs → Begins s (flatten rs)
unfolding flatten
walk_begins =
    walk-found (λ s rs. Begins s (flatten rs)) (λ s. record { rest = s; so = refl })
    (λ s qs n e behind. record {
      rest = behind.rest;
      so = sym (take-append-drop n s)
          ∙ ap (λ (t : List ℕ). take n s ++ t) behind.so
          ∙ sym (append_assoc (take n s) (flatten qs) behind.rest);
    })

-- Each has a header.
walk_headed : (s : List ℕ) (rs : List (List ℕ)) → walk s ≡ some rs → Each (λ r. 6 ≤ length r) rs
walk_headed =
    walk-found (λ s rs. Each (λ r. 6 ≤ length r) rs) (λ s. tt)
    (λ s qs n e behind. let w = record-whole s n e in (omega (arith, length-take-le n s w.within), behind))

-- ---- Part

pub part_none : (s : List ℕ) (i : ℕ) → length (records s) ≤ i → [] ≡ part s i
unfolding part
part_none s i h = sym (get_or-eq_default (records s) [] h)

-- Part is empty exactly where there is no such record.
pub part_empty_exactly : PartEmptyExactly
unfolding part records
part_empty_exactly s i = (empty_none (walk s) refl, none_empty)
  where
    empty_none : (o : Option (List (List ℕ))) → walk s ≡ o → part s i ≡ [] → NoPart s i
    empty_none none q e = no_end q
    empty_none (some rs) q e =
        elim (dec_lt i (length rs)) [
          | no l ↦ no_record q (omega arith)
          | yes l ↦
              let same : records s ≡ rs = rw (q, records) in
              let headed = each_at (λ r. 6 ≤ length r) rs (walk_headed s rs q) i l in
              let gone : length (get_or rs i []) ≡ 0 =
              ap (λ (qs : List (List ℕ)). length (get_or qs i [])) (sym same) ∙ ap length e in
              absurd (omega arith)
        ]

    none_empty : NoPart s i → part s i ≡ []
    none_empty (no_end q) = sym (part_none s i (rw (q, records) (omega arith)))
    none_empty (no_record q h) = sym (part_none s i (rw (q, records) h))

-- Where there are records, there is an end record behind them.
some_walked : (s : List ℕ) (i : ℕ) → i < length (records s) → walk s ≡ some (records s)
unfolding records
some_walked s i l = go (walk s) refl
  where
    go : (o : Option (List (List ℕ))) → walk s ≡ o → walk s ≡ some (records s)
    go none q = let none_there : records s ≡ [] = rw (q, records) in absurd (omega (arith, ap length none_there))
    go (some rs) q = let same : records s ≡ rs = rw (q, records) in rw same q

pub part-stands : PartStands
unfolding part place
part-stands s i l =
    let e = some_walked s i l in
    let begun = walk_begins s (records s) e in
    record {
      within = omega (
        arith,
        flatten-within (records s) i l,
        ap length begun.so,
        length-append (flatten (records s)) begun.rest,
      );
      so = ap (λ (t : List ℕ). take (length (get_or (records s) i [])) (drop (length (flatten (take i (records s)))) t))
          begun.so
          ∙ flatten-at (records s) i begun.rest l;
    }

record-within : (rs : List (List ℕ)) (i : ℕ) → length (get_or rs i []) ≤ length (flatten rs)
unfolding flatten
record-within [] i = omega arith
record-within (r ∷ rs) zero = omega (arith, length-append r (flatten rs))
record-within (r ∷ rs) (suc i) = omega (arith, record-within rs i, length-append r (flatten rs))

-- A record has no more bytes than the shelf.
pub part-within : (s : List ℕ) (i : ℕ) → length (part s i) ≤ length s
unfolding part records
part-within s i = go (walk s) refl
  where
    go : (o : Option (List (List ℕ))) → walk s ≡ o → length (part s i) ≤ length s
    go none q = rw (q, records) (omega arith)
    go (some rs) q =
        let begun = walk_begins s rs q in
        rw (q, records)
        (omega (arith, record-within rs i, length-append (flatten rs) begun.rest, ap length begun.so))
