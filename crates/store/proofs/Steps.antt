-- A walk goes record by record: what stands at the front decides its next step.
use Prim.Native.Nat.{ℕ, zero, suc, ◌≤◌, ◌<◌}
use mathlib.Core.Path.{◌≡◌, refl, sym}
use mathlib.Core.List.{List, [], ◌∷◌, ◌++◌, flatten, append_assoc}
use mathlib.Core.Option.{some, map}
use native.Mathlib.Nat.{not-suc-le-zero}
use native.Mathlib.Omega.{arith}
use lib.ListN.{length, take, drop, length-drop}
use Rattle.store.specs.Walk.{Front, end_record, record_of, neither, front, walk_at_most, walk}
use Rattle.store.proofs.Fronts.{record-whole}

same_step : (j k : ℕ) (s : List ℕ) (f : Front) → front s ≡ f → length s ≤ j → length s ≤ k
    → ((t : List ℕ) → length t < j → length t < k → walk_at_most j t ≡ walk_at_most k t)
    → walk_at_most (suc j) s ≡ walk_at_most (suc k) s
unfolding walk_at_most
same_step j k s end_record e a b rest = rw (e, walk_at_most)
same_step j k s neither e a b rest = rw (e, walk_at_most)
same_step j k s (record_of n) e a b rest =
    let w = record-whole s n e in
    let left = length-drop n s in
    let more = rest (drop n s) (omega arith) (omega arith) in
    rw (e, walk_at_most) (rw more)

-- How many steps are allowed does not matter once they are more than the bytes.
same-walk : (j k : ℕ) (s : List ℕ) → length s < j → length s < k → walk_at_most j s ≡ walk_at_most k s
same-walk zero k s a b = absurd (not-suc-le-zero a)
same-walk (suc j) zero s a b = absurd (not-suc-le-zero b)
same-walk (suc j) (suc k) s a b =
    same_step j k s (front s) refl (omega arith) (omega arith) (λ t c d. same-walk j k t c d)

pub walk-enough : (k : ℕ) (s : List ℕ) → length s < k → walk_at_most k s ≡ walk s
unfolding walk
walk-enough k s h = same-walk k (suc (length s)) s h (omega arith)

pub walk_end : (s : List ℕ) → front s ≡ end_record → walk s ≡ some []
unfolding walk walk_at_most
walk_end s e = rw (e, walk_at_most)

pub walk-record : (s : List ℕ) (n : ℕ) → front s ≡ record_of n
    → walk s ≡ map (λ (rs : List (List ℕ)). take n s ∷ rs) (walk (drop n s))
unfolding walk walk_at_most
walk-record s n e =
    let w = record-whole s n e in
    let left = length-drop n s in
    let rest = walk-enough (length s) (drop n s) (omega arith) in
    rw (e, walk_at_most) (rw rest)

-- ---- records one behind the other

pub flatten-append : (xs ys : List (List ℕ)) → flatten (xs ++ ys) ≡ flatten xs ++ flatten ys
unfolding flatten
flatten-append [] ys = refl
flatten-append (x ∷ xs) ys = rw (flatten-append xs ys) (sym (append_assoc x (flatten xs) (flatten ys)))
