-- The laws of the limit: it goes by the classes of the n states alone, is 1 for a partition under itself, multiplies
-- over pairs of states, and is the largest number of states of one class with different fine classes.
use Prim.Native.Nat.{ℕ, zero, suc, ◌+◌, ◌*◌, ◌/◌, ◌%◌, ◌≤◌, ◌<◌}
use mathlib.Core.Path.{◌≡◌, refl, sym, ap, ◌∙◌}
use mathlib.Core.Bool.{Bool, true, false, not, ◌&&◌, cond}
use mathlib.Core.List.{List}
use mathlib.Core.Option.{Option, none, some}
use native.Mathlib.Nat.{zero-mul, suc-mul, add-mul, add-zero, one-mul, le_antisymm, le_trans, lt-suc_self}
use native.Mathlib.Nat.{mul-le-mul, mul-le-mul_right, mul-lt-mul_of_pos_right}
use native.Mathlib.Decide.{dec_lt}
use native.Mathlib.Omega.{arith}
use lib.Arith.{digits_div, digits_mod}
use lib.Dec.{eqb}
use lib.ListN.{length, get_or}
use borrow.Author.Tests.{eqb-true, eq-eqb, not-true}
use Rattle.bounded.specs.Search.{least, count, largest, listed}
use Rattle.bounded.proofs.Search.{any_at, any_fails, any_same, and_left, and_right, same_truth, is_false}
use Rattle.bounded.proofs.Search.{true_not_false, least-none, least-found}
use Rattle.bounded.proofs.Search.{count_same, count_one, count_none, count_add, count_different}
use Rattle.bounded.proofs.Search.{largest-same, largest_at, largest_le, largest-reached}
use Rattle.bounded.proofs.Lists.{among_listed, among_at, length-listed, order-listed, order-once}
use Rattle.words.specs.Pairs.{pair}
use Rattle.words.proofs.Pairs.{pair_lt, pair_same, pair-first, pair-second, pair_of, first_lt, second_lt}
use Rattle.partition.specs.Classes.{same_class, is_first, fine_classes, limit}
use Rattle.partition.specs.Theorems.{Spread, LimitOf}
use Rattle.partition.specs.Sets.{Inside}

-- ---- the first state of a fine class

module _ (fine : ℕ → ℕ) where
  -- No earlier state has the fine class of a first one.
  first-none : (s : ℕ) → is_first fine s ≡ true → (r : ℕ) → r < s → fine r ≡ fine s → ⊥
  unfolding is_first same_class
  first-none s e r h q = true_not_false (any_at (λ r. eqb (fine r) (fine s)) s r h (eq-eqb _ _ q)) (not-true _ e)

  -- It is the first where no earlier state has its fine class.
  first_now : (s : ℕ) → ((r : ℕ) → r < s → fine r ≡ fine s → ⊥) → is_first fine s ≡ true
  unfolding is_first same_class
  first_now s out =
      ap not (any_fails s (λ r. eqb (fine r) (fine s)) (λ r h. is_false _ (λ e. out r h (eqb-true _ _ e))))

  -- Each fine class has a first state.
  first_of : (s : ℕ) → (r : ℕ) × (r ≤ s) × (fine r ≡ fine s) × (is_first fine r ≡ true)
  unfolding same_class
  first_of s = go (least (suc s) (λ r. same_class fine r s)) refl
    where
      go : (o : Option ℕ) → least (suc s) (λ r. same_class fine r s) ≡ o
          → (r : ℕ) × (r ≤ s) × (fine r ≡ fine s) × (is_first fine r ≡ true)
      go none e = absurd (true_not_false (eq-eqb (fine s) (fine s) refl) (least-none (suc s) _ e s (lt-suc_self s)))
      go (some r) e =
          let w = least-found (suc s) _ r e in
          let same = eqb-true (fine r) (fine s) w.passing in (
            r,
            omega (arith, w.below),
            same,
            first_now r (λ j l q. true_not_false (eq-eqb (fine j) (fine s) (q ∙ same)) (w.before j l)),
          )

  -- And only one.
  first_only : (r s : ℕ) → is_first fine r ≡ true → is_first fine s ≡ true → fine r ≡ fine s → r ≡ s
  first_only r s p q e =
      elim (dec_lt r s) [
        | yes l ↦ absurd (first-none s q r l e)
        | no l ↦ elim (dec_lt s r) [ yes k ↦ absurd (first-none r p s k (sym e)) | no k ↦ omega arith ]
      ]

-- ---- equal classes

-- A state is the first by its own class and those before it.
first-same : (fine fine' : ℕ → ℕ) (s : ℕ) → ((r : ℕ) → r ≤ s → fine r ≡ fine' r) → is_first fine s ≡ is_first fine' s
unfolding is_first same_class
first-same fine fine' s e =
    ap not (any_same s _ _ (λ r h. rw (e r (omega arith), e s (omega arith))))

-- Columns that agree on the n states have one limit.
pub limit-same : (n : ℕ) (class class' fine fine' : ℕ → ℕ) → ((s : ℕ) → s < n → class s ≡ class' s)
    → ((s : ℕ) → s < n → fine s ≡ fine' s) → limit n class fine ≡ limit n class' fine'
unfolding limit fine_classes
limit-same n class class' fine fine' p q =
    largest-same n _ _ (λ s h.
    count_same n _ _ (λ t l.
    rw (p t l, p s h, first-same fine fine' t (λ r k. q r (omega arith)))))

-- ---- a partition under itself

-- Each class has one first state.
pub limit_one : (n : ℕ) (class : ℕ → ℕ) → 1 ≤ n → limit n class class ≡ 1
unfolding limit fine_classes
limit_one n class h =
    let (s, l, e) = largest-reached n (λ s. fine_classes n class class (class s)) h in
    let (r, k, same, first) = first_of class s in
    sym e
    ∙ count_same n _ (eqb r) (λ t m.
    same_truth (eqb (class t) (class s) && is_first class t) (eqb r t)
    (λ w. eq-eqb r t (first_only class r t first (and_right (eqb (class t) (class s)) _ w)
    (same ∙ sym (eqb-true _ _ (and_left _ (is_first class t) w)))))
    (λ w. let q = eqb-true r t w in rw (← q, eq-eqb _ _ same) first))
    ∙ count_one n r (omega arith)

-- ---- pairs

-- Pairs are equal, as a test, where their numbers are.
pair_eqb : (k a a' b b' : ℕ) → b < k → b' < k → eqb (pair k a b) (pair k a' b') ≡ (eqb a a' && eqb b b')
pair_eqb k a a' b b' h l =
    same_truth _ _
    (λ e.
    let (first, second) = pair_same k a a' b b' h l (eqb-true _ _ e) in
    rw (eq-eqb a a' first, eq-eqb b b' second))
    (λ e.
    let first = eqb-true a a' (and_left _ (eqb b b') e) in
    let second = eqb-true b b' (and_right (eqb a a') _ e) in
    eq-eqb (pair k a b) (pair k a' b') (rw (first, second)))

-- How many pairs pass two tests, one on each number.
count_pairs : (m n : ℕ) (p q : ℕ → Bool) → count (m * n) (λ s. p (s / n) && q (s % n)) ≡ count m p * count n q
unfolding count
count_pairs zero n p q = rw (zero-mul n) (sym (zero-mul (count n q)))
count_pairs (suc m) n p q =
    rw (suc-mul m n, count_add (m * n) n _, count_pairs m n p q)
    (ap (λ (k : ℕ). count m p * count n q + k)
    (count_same n _ (λ b. p m && q b) (λ b h. rw (digits_div m h, digits_mod m h)) ∙ row (p m))
    ∙ one (p m) (count m p) (count n q))
  where
    row : (b : Bool) → count n (λ i. b && q i) ≡ cond b (count n q) 0
    row true = refl
    row false = count_none n

    one : (b : Bool) (j k : ℕ) → j * k + cond b k 0 ≡ (j + cond b 1 0) * k
    one true j k = sym (add-mul j 1 k ∙ ap (λ (l : ℕ). j * k + l) (one-mul k))
    one false j k = rw (add-zero j) (add-zero (j * k))

-- The largest product of two numbers, one by each.
largest_pairs : (m n : ℕ) (u v : ℕ → ℕ) → 1 ≤ m → 1 ≤ n
    → largest (m * n) (λ s. u (s / n) * v (s % n)) ≡ largest m u * largest n v
largest_pairs m n u v h l =
    let (a, below, e) = largest-reached m u h in
    let (b, below', e') = largest-reached n v l in
    let there = largest_at (m * n) (λ s. u (s / n) * v (s % n)) (pair n a b) (pair_lt m n a b below below') in
    le_antisymm
    (largest_le _ _ _ (λ s k.
    mul-le-mul (largest_at m u (s / n) (first_lt m n s k)) (largest_at n v (s % n) (second_lt n s l))))
    (rw (pair-first n a b below', pair-second n a b below', e, e') at there)

-- ---- a product

-- The pair of the classes of a pair of states.
abbrev both : ℕ → ℕ → (ℕ → ℕ) → (ℕ → ℕ) → ℕ → ℕ
both n k class class' s = pair k (class (s / n)) (class' (s % n))

-- A pair of states is the first of its fine class exactly if both are.
first-pair : (n f : ℕ) (fine fine' : ℕ → ℕ) → 1 ≤ n → ((b : ℕ) → b < n → fine' b < f) → (s : ℕ)
    → is_first (both n f fine fine') s ≡ (is_first fine (s / n) && is_first fine' (s % n))
unfolding pair
first-pair n f fine fine' h small s =
    same_truth _ _
    (λ e.
    let left : is_first fine (s / n) ≡ true = first_now fine (s / n) (λ r l q.
    first-none (both n f fine fine') s e (pair n r (s % n)) (omega (arith, whole, mul-lt-mul_of_pos_right l h))
    (rw (pair-first n r (s % n) low, pair-second n r (s % n) low, q))) in
    let right : is_first fine' (s % n) ≡ true = first_now fine' (s % n) (λ r l q.
    let small : r < n = omega (arith, low) in
    first-none (both n f fine fine') s e (pair n (s / n) r) (omega (arith, whole))
    (rw (pair-first n (s / n) r small, pair-second n (s / n) r small, q))) in
    rw (left, right))
    (λ e.
    first_now (both n f fine fine') s (λ r l q.
    let (same, same') = pair_same f _ _ _ _ (small _ (second_lt n r h)) (small _ low) q in
    elim (dec_lt (r / n) (s / n)) [
      | yes k ↦ first-none fine (s / n) (and_left _ _ e) (r / n) k same
      | no k ↦
          let rows : s / n ≤ r / n = omega arith in
          first-none fine' (s % n) (and_right (is_first fine (s / n)) _ e) (r % n)
          (omega (arith, whole, pair_of n r, mul-le-mul_right n rows)) same'
    ]))
  where
    whole : pair n (s / n) (s % n) ≡ s
    whole = pair_of n s

    low : s % n < n
    low = second_lt n s h

-- The limit over pairs of states, with pairs of classes, is the product of the limits.
pub limit-product : (m n k f : ℕ) (class fine : ℕ → ℕ) (class' fine' : ℕ → ℕ) → 1 ≤ m → 1 ≤ n
    → ((b : ℕ) → b < n → class' b < k) → ((b : ℕ) → b < n → fine' b < f)
    → limit (m * n) (λ s. pair k (class (s / n)) (class' (s % n))) (λ s. pair f (fine (s / n)) (fine' (s % n)))
    ≡ limit m class fine * limit n class' fine'
unfolding limit fine_classes
limit-product m n k f class fine class' fine' h l below fine-below =
    largest-same (m * n) _
    (λ s. fine_classes m class fine (class (s / n)) * fine_classes n class' fine' (class' (s % n)))
    (λ s i.
    count_same (m * n) _ _ (λ t j.
    rw (
      pair_eqb k _ _ _ _ (below _ (second_lt n t l)) (below _ (second_lt n s l)),
      first-pair n f fine fine' l fine-below t,
    ) (swap (eqb (class (t / n)) (class (s / n))) _ _ _))
    ∙ count_pairs m n (λ t. eqb (class t) (class (s / n)) && is_first fine t)
    (λ t. eqb (class' t) (class' (s % n)) && is_first fine' t))
    ∙ largest_pairs m n _ _ h l
  where
    swap : (a b c d : Bool) → ((a && b) && (c && d)) ≡ ((a && c) && (b && d))
    swap true true c d = refl
    swap true false true d = refl
    swap true false false d = refl
    swap false b c d = refl

-- ---- what the limit tells

module _ (n : ℕ) (class fine : ℕ → ℕ) where
  -- The first states of the fine classes of a class.
  abbrev firsts : ℕ → List ℕ
  firsts c = listed n (λ t. eqb (class t) c && is_first fine t)

  -- What holds of each of them.
  firsts_at : (c i : ℕ) → i < length (firsts c)
      → (get_or (firsts c) i 0 < n) × (class (get_or (firsts c) i 0) ≡ c) × (is_first fine (get_or (firsts c) i 0) ≡ true)
  firsts_at c i h =
      let x = get_or (firsts c) i 0 in
      let (below, e) = (among_listed (λ t. eqb (class t) c && is_first fine t) n).0 (among_at (firsts c) i h) in
      (below, eqb-true _ c (and_left _ (is_first fine x) e), and_right (eqb (class x) c) _ e)

  -- They are of one class, and no two of one fine class.
  firsts_spread : (c : ℕ) → Spread n class fine (firsts c)
  firsts_spread c = record {
    below = λ i h. (firsts_at c i h).0;
    together = λ i j h l. (firsts_at c i h).1 ∙ sym (firsts_at c j l).1;
    apart = λ i j h l e.
        order-once (λ x y z p q. omega arith) (λ x p. omega arith)
        (order-listed {Before = ◌<◌} n _ (λ x y p q a b. p)) i j h l
        (first_only fine _ _ (firsts_at c i (omega arith)).2 (firsts_at c j l).2 e);
  }

  -- Such states of class c are no more than its fine classes: the fine class of each has another first state.
  spread_le : Inside n class fine → (c : ℕ) (xs : List ℕ) → Spread n class fine xs
      → ((i : ℕ) → i < length xs → class (get_or xs i 0) ≡ c) → length xs ≤ fine_classes n class fine c
  unfolding fine_classes
  spread_le inside c xs spread of =
      count_different (length xs) n (λ i. (first_of fine (get_or xs i 0)).0) _
      (λ i h.
      let (r, k, same, first) = first_of fine (get_or xs i 0) in
      let below : r < n = omega (arith, spread.below i h) in
      (below, rw (eq-eqb _ c (inside r _ below (spread.below i h) same ∙ of i h)) first))
      (λ i j l h e.
      spread.apart i j l h
      (sym (first_of fine (get_or xs i 0)).2 ∙ ap fine e ∙ (first_of fine (get_or xs j 0)).2))

  -- The limit is the largest number of such states.
  pub limit_of : 1 ≤ n → Inside n class fine → LimitOf n class fine (limit n class fine)
  unfolding limit fine_classes
  limit_of h inside = record {
    reached =
        let (s, l, e) = largest-reached n (λ s. fine_classes n class fine (class s)) h in
        (firsts (class s), length-listed _ n ∙ e, firsts_spread (class s));
    most = λ xs spread.
        elim (dec_lt 0 (length xs)) [
          | yes l ↦
              let x = get_or xs 0 0 in
              le_trans (spread_le inside (class x) xs spread (λ i k. spread.together i 0 k l))
              (largest_at n (λ s. fine_classes n class fine (class s)) x (spread.below 0 l))
          | no l ↦ omega arith
        ];
  }
