-- The records at the start of some bytes: they stand there one behind the other, and where the end record stands behind
-- them, a walk finds exactly these.
use Prim.Native.Nat.{ℕ, zero, suc, ◌+◌, ◌≤◌, ◌<◌}
use mathlib.Core.Path.{◌≡◌, refl, sym, ap, ◌∙◌}
use mathlib.Core.Bool.{true, false}
use mathlib.Core.List.{List, [], ◌∷◌, ◌++◌, flatten, append_assoc}
use mathlib.Core.Option as math
use mathlib.Core.Option.{none, some, map}
use native.Mathlib.Nat.{not-suc-le-zero}
use native.Mathlib.Omega.{arith}
use lib.ListN.{length, take, drop, get_or, length-drop, length-append, take-append-drop}
use lib.Seq.{drop-cons, take-suc, drop-drop, length-take-le, take-append_seam, drop-append_seam}
use borrow.Author.Tests.{le-ltb}
use Rattle.std.specs.Prelude.{Some, None, slice_get}
use Rattle.std.proofs.lemmas.Option.{slice_get-get_or}
use Rattle.words.specs.LittleEndian.{number}
use Rattle.words.proofs.LittleEndian.{number-inside}
use Rattle.part.specs.Record.{body_length, kind}
use Rattle.store.specs.Walk.{Front, end_record, record_of, neither, front, walk_at_most, walk, records}
use Rattle.store.specs.Leading.{ends_there, size_there, leading_at_most, leading}
use Rattle.store.specs.Reading.{place, part}
use Rattle.store.specs.Demand.{Begins}
use Rattle.store.specs.Found.{Ends}
use Rattle.store.proofs.Fronts.{record-whole, record-no_end}
use Rattle.store.proofs.Steps.{flatten-append}

-- ---- the first of them

same_step : (j k : ℕ) (s : List ℕ) (f : Front) → front s ≡ f → length s ≤ j → length s ≤ k
    → ((t : List ℕ) → length t < j → length t < k → leading_at_most j t ≡ leading_at_most k t)
    → leading_at_most (suc j) s ≡ leading_at_most (suc k) s
unfolding leading_at_most
same_step j k s end_record e a b rest = rw (e, leading_at_most)
same_step j k s neither e a b rest = rw (e, leading_at_most)
same_step j k s (record_of n) e a b rest =
    let w = record-whole s n e in
    let left = length-drop n s in
    let more = rest (drop n s) (omega arith) (omega arith) in
    rw (e, leading_at_most) (rw more)

-- How many are looked at does not matter once they are more than the bytes.
same-leading : (j k : ℕ) (s : List ℕ) → length s < j → length s < k → leading_at_most j s ≡ leading_at_most k s
same-leading zero k s a b = absurd (not-suc-le-zero a)
same-leading (suc j) zero s a b = absurd (not-suc-le-zero b)
same-leading (suc j) (suc k) s a b =
    same_step j k s (front s) refl (omega arith) (omega arith) (λ t c d. same-leading j k t c d)

leading-record : (s : List ℕ) (n : ℕ) → front s ≡ record_of n → leading s ≡ take n s ∷ leading (drop n s)
unfolding leading leading_at_most
leading-record s n e =
    let w = record-whole s n e in
    let left = length-drop n s in
    let rest = same-leading (length s) (suc (length (drop n s))) (drop n s) (omega arith) (omega arith) in
    rw (e, leading_at_most) (rw rest)

sized : (s : List ℕ) (n : ℕ) → size_there (front s) ≡ Some n → front s ≡ record_of n
sized s n = go (front s)
  where
    go : (f : Front) → size_there f ≡ Some n → f ≡ record_of n
    go end_record e = absurd cc
    go (record_of k) e = cc
    go neither e = absurd cc

pub leading-first : (s : List ℕ) (n : ℕ) → size_there (front s) ≡ Some n → leading s ≡ take n s ∷ leading (drop n s)
leading-first s n e = leading-record s n (sized s n e)

pub leading-none : (s : List ℕ) → size_there (front s) ≡ None → leading s ≡ []
unfolding leading leading_at_most
leading-none s e = go (front s) refl e
  where
    go : (f : Front) → front s ≡ f → size_there f ≡ None → leading s ≡ []
    go end_record q e = rw (q, leading_at_most)
    go (record_of k) q e = absurd cc
    go neither q e = rw (q, leading_at_most)

leading-nothing : leading [] ≡ []
unfolding front
leading-nothing = leading-none [] refl

pub ruleset leads = (leading-first, leading-none)

-- ---- where they stand

begin-step : (k : ℕ) (s : List ℕ) (f : Front) → front s ≡ f
    → ((n : ℕ) → Begins (drop n s) (flatten (leading_at_most k (drop n s))))
    → Begins s (flatten (leading_at_most (suc k) s))
unfolding leading_at_most flatten
begin-step k s end_record e more = rw (e, leading_at_most) record { rest = s; so = refl }
begin-step k s neither e more = rw (e, leading_at_most) record { rest = s; so = refl }
begin-step k s (record_of n) e more =
    let behind = more n in
    rw (e, leading_at_most)
    record {
      rest = behind.rest;
      so = sym (take-append-drop n s)
          ∙ ap (λ (t : List ℕ). take n s ++ t) behind.so
          ∙ sym (append_assoc (take n s) (flatten (leading_at_most k (drop n s))) behind.rest);
    }

leading-begin-at : (k : ℕ) (s : List ℕ) → Begins s (flatten (leading_at_most k s))
unfolding leading_at_most flatten
leading-begin-at zero s = record { rest = s; so = refl }
leading-begin-at (suc k) s = begin-step k s (front s) refl (λ n. leading-begin-at k (drop n s))

pub leading-begin : (s : List ℕ) → Begins s (flatten (leading s))
unfolding leading
leading-begin s = leading-begin-at (suc (length s)) s

pub leading-within : (s : List ℕ) → length (flatten (leading s)) ≤ length s
leading-within s =
    let b = leading-begin s in
    omega (arith, ap length b.so, length-append (flatten (leading s)) b.rest)

fewer-step : (k : ℕ) (s : List ℕ) (f : Front) → front s ≡ f
    → ((n : ℕ) → length (leading_at_most k (drop n s)) ≤ length (flatten (leading_at_most k (drop n s))))
    → length (leading_at_most (suc k) s) ≤ length (flatten (leading_at_most (suc k) s))
unfolding leading_at_most flatten
fewer-step k s end_record e more = rw (e, leading_at_most) (omega arith)
fewer-step k s neither e more = rw (e, leading_at_most) (omega arith)
fewer-step k s (record_of n) e more =
    let w = record-whole s n e in
    rw (e, leading_at_most)
    (omega (
      arith,
      more n,
      length-take-le n s w.within,
      length-append (take n s) (flatten (leading_at_most k (drop n s))),
    ))

fewer : (k : ℕ) (s : List ℕ) → length (leading_at_most k s) ≤ length (flatten (leading_at_most k s))
unfolding leading_at_most flatten
fewer zero s = omega arith
fewer (suc k) s = fewer-step k s (front s) refl (λ n. fewer k (drop n s))

pub length-leading : (s : List ℕ) → length (leading s) ≤ length s
unfolding leading
length-leading s = omega (arith, fewer (suc (length s)) s, leading-within s)

-- One of them more.
pub length-first : {rs : List (List ℕ)} {r : List ℕ} {qs : List (List ℕ)} → rs ≡ r ∷ qs
    → (length rs ≡ length qs + 1) × (length (flatten rs) ≡ length r + length (flatten qs))
unfolding flatten
length-first {rs} {r} {qs} e =
    (ap length e ∙ omega arith, ap (λ (ps : List (List ℕ)). length (flatten ps)) e ∙ length-append r (flatten qs))

pub length-none : {rs : List (List ℕ)} → rs ≡ [] → (length rs ≡ 0) × (length (flatten rs) ≡ 0)
unfolding flatten
length-none e = (ap length e, ap (λ (qs : List (List ℕ)). length (flatten qs)) e)

-- The same of the first n or m.
pub length-taken : {rs : List (List ℕ)} {r : List ℕ} {qs : List (List ℕ)} (n m : ℕ) → rs ≡ r ∷ qs → m + 1 ≡ n
    → length (flatten (take n rs)) ≡ length r + length (flatten (take m qs))
length-taken {rs} {r} {qs} n m e h =
    let next : n ≡ suc m = omega arith in
    (length-first (rw (next, e) refl)).1

pub length-none_taken : (n : ℕ) (rs : List (List ℕ)) → (0 < n → rs ≡ []) → length (flatten (take n rs)) ≡ 0
unfolding flatten
length-none_taken zero rs h = refl
length-none_taken (suc n) rs h = (length-none (ap (take (suc n)) (h (omega arith)))).1

pub taken-within : (n : ℕ) (rs : List (List ℕ)) → length (flatten (take n rs)) ≤ length (flatten rs)
unfolding flatten
taken-within zero rs = omega arith
taken-within (suc n) [] = omega arith
taken-within (suc n) (r ∷ rs) =
    omega (arith, taken-within n rs, length-append r (flatten (take n rs)), length-append r (flatten rs))

pub leading-taken : (n : ℕ) (s : List ℕ) → length (flatten (take n (leading s))) ≤ length s
leading-taken n s = omega (arith, taken-within n (leading s), leading-within s)

-- Behind the first k of some records stands record k, and behind it the others.
pub passed : (rs : List (List ℕ)) {qs : List (List ℕ)} {r : List ℕ} (k : ℕ) → k < length rs → drop k rs ≡ r ∷ qs
    → (r ≡ get_or rs k [])
    × (drop (k + 1) rs ≡ qs)
    × (length (flatten (take (k + 1) rs)) ≡ length (flatten (take k rs)) + length r)
unfolding flatten
passed rs {qs} {r} k l e =
    let next : k + 1 ≡ suc k = omega arith in
    let seam : get_or rs k [] ∷ drop (suc k) rs ≡ r ∷ qs = sym (drop-cons rs k [] l) ∙ e in
    let one : get_or rs k [] ≡ r = cc in
    let others : drop (suc k) rs ≡ qs = cc in
    let all : flatten (take (suc k) rs) ≡ flatten (take k rs) ++ (get_or rs k [] ++ []) =
    ap flatten (take-suc rs k [] l) ∙ flatten-append (take k rs) (get_or rs k [] ∷ []) in (
      sym one,
      rw next others,
      rw next
          (omega (
            arith,
            ap length all,
            ap length one,
            length-append (flatten (take k rs)) (get_or rs k [] ++ []),
            length-append (get_or rs k []) [],
          )),
    )

-- ---- what a walk finds

-- These records, where the end record stands behind them.
abbrev closed : Front → List (List ℕ) → math.Option (List (List ℕ))
closed end_record rs = some rs
closed (record_of n) rs = none
closed neither rs = none

closed-first : (f : Front) (r : List ℕ) (rs : List (List ℕ))
    → map (λ (qs : List (List ℕ)). r ∷ qs) (closed f rs) ≡ closed f (r ∷ rs)
closed-first end_record r rs = refl
closed-first (record_of n) r rs = refl
closed-first neither r rs = refl

-- What a walk finds that looks at no more records than these.
abbrev Finds : ℕ → List ℕ → Type 0
Finds k s =
    walk_at_most k s ≡ closed (front (drop (length (flatten (leading_at_most k s))) s)) (leading_at_most k s)

closed-step : (k : ℕ) (s : List ℕ) (f : Front) → front s ≡ f → length s ≤ k
    → ((t : List ℕ) → length t < k → Finds k t)
    → Finds (suc k) s
unfolding walk_at_most leading_at_most flatten
closed-step k s end_record e l more = rw (e, walk_at_most, leading_at_most) (rw e)
closed-step k s neither e l more = rw (e, walk_at_most, leading_at_most) (rw e)
closed-step k s (record_of n) e l more =
    let w = record-whole s n e in
    let left = length-drop n s in
    let rest = leading_at_most k (drop n s) in
    let size : length (take n s ++ flatten rest) ≡ n + length (flatten rest) =
    length-append (take n s) (flatten rest) ∙ ap (λ (m : ℕ). m + length (flatten rest)) (length-take-le n s w.within) in
    rw (e, walk_at_most, leading_at_most)
    (ap (map (λ (qs : List (List ℕ)). take n s ∷ qs)) (more (drop n s) (omega arith))
    ∙ closed-first (front (drop (length (flatten rest)) (drop n s))) (take n s) rest
    ∙ ap (λ (t : List ℕ). closed (front t) (take n s ∷ rest))
    (drop-drop (length (flatten rest)) n s ∙ ap (λ (m : ℕ). drop m s) (sym size)))

walk-closed : (k : ℕ) (s : List ℕ) → length s < k → Finds k s
walk-closed zero s l = absurd (not-suc-le-zero l)
walk-closed (suc k) s l = closed-step k s (front s) refl (omega arith) (λ t h. walk-closed k t h)

walk-leading : (s : List ℕ) → walk s ≡ closed (front (drop (length (flatten (leading s))) s)) (leading s)
unfolding walk leading
walk-leading s = walk-closed (suc (length s)) s (omega arith)

-- Where there is an end record, the walk finds these.
pub records-leading : (s : List ℕ) (rs : List (List ℕ)) → walk s ≡ some rs → leading s ≡ rs
records-leading s rs e = go (front (drop (length (flatten (leading s))) s)) (sym (walk-leading s) ∙ e)
  where
    go : (f : Front) → closed f (leading s) ≡ some rs → leading s ≡ rs
    go end_record q = cc
    go (record_of n) q = absurd cc
    go neither q = absurd cc

module _ (s : List ℕ) {at : ℕ} (p : at ≡ length (flatten (leading s))) where
  walk-at : walk s ≡ closed (front (drop at s)) (leading s)
  walk-at = walk-leading s ∙ ap (λ (k : ℕ). closed (front (drop k s)) (leading s)) (sym p)

  pub leading-ends : {n : ℕ} → n ≡ length (leading s) → true ≡ ends_there (front (drop at s)) → Ends s n at
  unfolding records
  leading-ends {n} m e = go (front (drop at s)) e walk-at
    where
      go : (f : Front) → true ≡ ends_there f → walk s ≡ closed f (leading s) → Ends s n at
      go end_record t q =
          let same : records s ≡ leading s = rw (q, records) in
          let within = leading-within s in
          record {
            ends = q ∙ ap some (sym same);
            many = m ∙ ap length (sym same);
            place = p ∙ ap (λ (rs : List (List ℕ)). length (flatten rs)) (sym same);
            within = omega arith;
          }
      go (record_of k) t q = absurd cc
      go neither t q = absurd cc

  pub leading_endless : false ≡ ends_there (front (drop at s)) → walk s ≡ none
  leading_endless e = go (front (drop at s)) e walk-at
    where
      go : (f : Front) → false ≡ ends_there f → walk s ≡ closed f (leading s) → walk s ≡ none
      go end_record t q = absurd cc
      go (record_of k) t q = q
      go neither t q = q

module _ (s : List ℕ) (i : ℕ) (e : walk s ≡ some (records s)) where
  pub place-leading : place s i ≡ length (flatten (take i (leading s)))
  unfolding place
  place-leading =
      ap (λ (rs : List (List ℕ)). length (flatten (take i rs))) (sym (records-leading s (records s) e))

  pub part-leading : i < length (records s) → slice_get (leading s) i ≡ Some (part s i)
  unfolding part
  part-leading l =
      ap (λ (rs : List (List ℕ)). slice_get rs i) (records-leading s (records s) e)
      ∙ slice_get-get_or (records s) i [] l

-- ---- before the end record

-- A record is known by its own bytes.
front-own : (s more : List ℕ) (n : ℕ) → front s ≡ record_of n → front (take n s ++ more) ≡ record_of n
unfolding front kind body_length
front-own s more n e =
    let w = record-whole s n e in
    let long : length (take n s) ≡ n = length-take-le n s w.within in
    let all = length-append (take n s) more in
    let whole = take-append-drop n s in
    let body : number 4 (take n s ++ more) 0 ≡ number 4 s 0 =
    number-inside 4 (take n s) more 0 (omega (arith, w.size))
    ∙ sym (number-inside 4 (take n s) (drop n s) 0 (omega (arith, w.size)))
    ∙ ap (λ (t : List ℕ). number 4 t 0) whole in
    let kinds : number 2 (take n s ++ more) 4 ≡ number 2 s 4 =
    number-inside 2 (take n s) more 4 (omega (arith, w.size))
    ∙ sym (number-inside 2 (take n s) (drop n s) 4 (omega (arith, w.size)))
    ∙ ap (λ (t : List ℕ). number 2 t 4) whole in
    rw (
      kinds,
      body,
      le-ltb (length (take n s ++ more)) 6 (omega (arith, w.size)),
      le-ltb (length (take n s ++ more)) (6 + body_length s) (omega (arith, w.size)),
      record-no_end s n e,
    )
    (ap record_of (sym w.size))

again-step : (k : ℕ) (s : List ℕ) (f : Front) → front s ≡ f
    → ((n : ℕ) → leading (flatten (leading_at_most k (drop n s))) ≡ leading_at_most k (drop n s))
    → leading (flatten (leading_at_most (suc k) s)) ≡ leading_at_most (suc k) s
unfolding leading_at_most flatten
again-step k s end_record e more = rw (e, leading_at_most) leading-nothing
again-step k s neither e more = rw (e, leading_at_most) leading-nothing
again-step k s (record_of n) e more =
    let w = record-whole s n e in
    let long : length (take n s) ≡ n = length-take-le n s w.within in
    let rest = flatten (leading_at_most k (drop n s)) in
    let first : take n (take n s ++ rest) ≡ take n s =
    ap (λ (m : ℕ). take m (take n s ++ rest)) (sym long) ∙ take-append_seam (take n s) rest in
    let others : drop n (take n s ++ rest) ≡ rest =
    ap (λ (m : ℕ). drop m (take n s ++ rest)) (sym long) ∙ drop-append_seam (take n s) rest in
    rw (e, leading_at_most)
    (leading-record (take n s ++ rest) n (front-own s rest n e)
    ∙ ap (λ (r : List ℕ). r ∷ leading (drop n (take n s ++ rest))) first
    ∙ ap (λ (t : List ℕ). take n s ∷ leading t) others
    ∙ ap (λ (rs : List (List ℕ)). take n s ∷ rs) (more n))

leading-again : (k : ℕ) (s : List ℕ) → leading (flatten (leading_at_most k s)) ≡ leading_at_most k s
unfolding leading_at_most flatten
leading-again zero s = leading-nothing
leading-again (suc k) s = again-step k s (front s) refl (λ n. leading-again k (drop n s))

-- The records before the end record are those at the start of the bytes before it.
pub leading-before : (s : List ℕ) {n at : ℕ} → Ends s n at → leading (take at s) ≡ records s
unfolding leading
leading-before s {n} {at} w =
    let same : leading s ≡ records s = records-leading s (records s) w.ends in
    let b = leading-begin s in
    let place : at ≡ length (flatten (leading s)) =
    w.place ∙ ap (λ (rs : List (List ℕ)). length (flatten rs)) (sym same) in
    let before : take at s ≡ flatten (leading s) =
    ap (λ (k : ℕ). take k s) place
    ∙ ap (take (length (flatten (leading s)))) b.so
    ∙ take-append_seam (flatten (leading s)) b.rest in
    ap leading before ∙ leading-again (suc (length s)) s ∙ same

-- ---- one of records that stand one behind the other

pub flatten-at : (rs : List (List ℕ)) (i : ℕ) (more : List ℕ) → i < length rs
    → take (length (get_or rs i [])) (drop (length (flatten (take i rs))) (flatten rs ++ more)) ≡ get_or rs i []
unfolding flatten
flatten-at [] i more l = absurd (not-suc-le-zero l)
flatten-at (r ∷ rs) zero more l = rw (append_assoc r (flatten rs) more) (take-append_seam r (flatten rs ++ more))
flatten-at (r ∷ rs) (suc i) more l =
    let m = length (flatten (take i rs)) in
    let k = length (get_or rs i []) in
    ap (λ (n : ℕ). take k (drop n ((r ++ flatten rs) ++ more))) (length-append r (flatten (take i rs)))
    ∙ ap (λ (t : List ℕ). take k (drop (length r + m) t)) (append_assoc r (flatten rs) more)
    ∙ ap (take k) (sym (drop-drop m (length r) (r ++ (flatten rs ++ more))))
    ∙ ap (λ (t : List ℕ). take k (drop m t)) (drop-append_seam r (flatten rs ++ more))
    ∙ flatten-at rs i more (omega arith)

pub flatten-within : (rs : List (List ℕ)) (i : ℕ) → i < length rs
    → length (flatten (take i rs)) + length (get_or rs i []) ≤ length (flatten rs)
unfolding flatten
flatten-within [] i l = absurd (not-suc-le-zero l)
flatten-within (r ∷ rs) zero l = omega (arith, length-append r (flatten rs))
flatten-within (r ∷ rs) (suc i) l =
    omega (
      arith,
      flatten-within rs i (omega arith),
      length-append r (flatten rs),
      length-append r (flatten (take i rs)),
    )
