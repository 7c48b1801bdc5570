-- The laws of bounded searches: what an answer tells of each number below the bound, and how a loop that has searched
-- below i goes on.
use Prim.Native.Nat.{ℕ, zero, suc, ◌+◌, ◌*◌, ◌≤◌, ◌<◌, max}
use mathlib.Core.Path.{◌≡◌, refl, sym, ap, ◌∙◌, subst}
use mathlib.Core.Bool.{Bool, true, false, not, ◌||◌, ◌&&◌, cond, or-true, or-false}
use mathlib.Core.Option.{Option, none, some}
use mathlib.Core.Logic.{◌↔◌, ◌⊎◌, inl, inr, ⊎_elim}
use native.Mathlib.Nat.{add-zero, eq-or-lt_of_le, le_of_suc-le-suc, not-suc-le-zero, lt-suc_self, le_step, suc-mul}
use native.Mathlib.Numerals.{add-one}
use native.Mathlib.Decide.{dec_le}
use native.Mathlib.Omega.{arith}
use borrow.Author.Tests.{eq-eqb, ne_eqb}
use lib.Dec.{T, eqb}
use Rattle.bounded.specs.Search.{any, all, or_else, when, first, least, count, total, largest}

-- ---- tests

pub true_not_false : {b : Bool} → b ≡ true → b ≡ false → ⊥
true_not_false p q = let z : ◌≡◌ {A = ℕ} 0 1 = cc in omega arith

pub true_or_false : (b : Bool) → (b ≡ true) ⊎ (b ≡ false)
true_or_false true = inl refl
true_or_false false = inr refl

-- A test that cannot be true is false, and one that cannot be false is true.
pub is_false : (b : Bool) → (b ≡ true → ⊥) → b ≡ false
is_false true h = absurd (h refl)
is_false false h = refl

pub is_true : (b : Bool) → (b ≡ false → ⊥) → b ≡ true
is_true true h = refl
is_true false h = absurd (h refl)

pub passed : (b : Bool) → T b → b ≡ true
passed true h = refl
passed false h = absurd h

pub passes : {b : Bool} → b ≡ true → T b
passes e = subst T (sym e) tt

pub or_left : (a b : Bool) → (a || b) ≡ false → a ≡ false
or_left true b e = e
or_left false b e = refl

pub or_right : (a b : Bool) → (a || b) ≡ false → b ≡ false
or_right true b e = absurd (true_not_false refl e)
or_right false b e = e

pub or_now : (a b : Bool) → a ≡ true → (a || b) ≡ true
or_now a b e = rw e

pub or-then : (a b : Bool) → a ≡ false → (a || b) ≡ b
or-then a b e = rw e

pub and_now : (a b : Bool) → a ≡ true → (a && b) ≡ b
and_now a b e = rw e

pub and_never : (a b : Bool) → a ≡ false → (a && b) ≡ false
and_never a b e = rw e

pub and_left : (a b : Bool) → (a && b) ≡ true → a ≡ true
and_left true b e = refl
and_left false b e = e

pub and_right : (a b : Bool) → (a && b) ≡ true → b ≡ true
and_right true b e = e
and_right false b e = absurd (true_not_false e refl)

-- Under a test that passes, two tests are the same.
pub and_under : (a p q : Bool) → (a ≡ true → p ≡ q) → (a && p) ≡ (a && q)
and_under true p q h = h refl
and_under false p q h = refl

-- "If a then b" as a test.
pub imp_elim : (a b : Bool) → (not a || b) ≡ true → a ≡ true → b ≡ true
imp_elim true b e t = e
imp_elim false b e t = absurd (true_not_false t refl)

pub imp_intro : (a b : Bool) → (a ≡ true → b ≡ true) → (not a || b) ≡ true
imp_intro true b h = h refl
imp_intro false b h = refl

pub not_refuted : (a b : Bool) → (a ≡ true → b ≡ true) → (a && not b) ≡ false
not_refuted true b h = ap not (h refl)
not_refuted false b h = refl

-- A number below n + 1 is n or below n.
pub last-or-below : {i n : ℕ} → i < suc n → (i ≡ n) ⊎ (i < n)
last-or-below h = eq-or-lt_of_le (le_of_suc-le-suc h)

-- ---- any

module _ (f : ℕ → Bool) where
  pub any_next : (i : ℕ) → any (i + 1) f ≡ (any i f || f i)
  unfolding any
  any_next i = rw (add-one i)

  -- the loop's step: not below i, and not at i
  pub any-more : (i : ℕ) → any i f ≡ false → f i ≡ false → any (i + 1) f ≡ false
  unfolding any
  any-more i p q = rw (add-one i) (rw p q)

  pub any_at : (n i : ℕ) → i < n → f i ≡ true → any n f ≡ true
  unfolding any
  any_at zero i h e = absurd (not-suc-le-zero h)
  any_at (suc n) i h e =
      ⊎_elim
      (λ q. rw (subst (λ (k : ℕ). f k ≡ true) q e) (or-true (any n f)))
      (λ l. rw (any_at n i l e))
      (last-or-below h)

  pub any_none : (n : ℕ) → any n f ≡ false → (i : ℕ) → i < n → f i ≡ false
  any_none n e i h = is_false _ (λ t. true_not_false (any_at n i h t) e)

-- ---- all

module _ (f : ℕ → Bool) where
  pub all_next : (i : ℕ) → all (i + 1) f ≡ (all i f && f i)
  unfolding all
  all_next i = rw (add-one i)

  pub all_intro : (n : ℕ) → ((i : ℕ) → i < n → f i ≡ true) → all n f ≡ true
  unfolding all
  all_intro zero h = refl
  all_intro (suc n) h = rw (all_intro n (λ i l. h i (le_step l))) (h n (lt-suc_self n))

  pub all_at : (n : ℕ) → all n f ≡ true → (i : ℕ) → i < n → f i ≡ true
  unfolding all
  all_at zero e i h = absurd (not-suc-le-zero h)
  all_at (suc n) e i h =
      ⊎_elim
      (λ q. subst (λ (k : ℕ). f k ≡ true) (sym q) (and_right (all n f) _ e))
      (λ l. all_at n (and_left _ _ e) i l)
      (last-or-below h)

-- ---- first

-- a is found at i, and nothing before.
pub record FoundAt {A : Type 0} (n : ℕ) (f : ℕ → Option A) (a : A) : Type 0 where
  pub at : ℕ
  pub below : at < n
  pub found : f at ≡ some a
  pub before : (j : ℕ) → j < at → f j ≡ none

module _ {A : Type 0} where
  pub when_none : (test : Bool) (a : A) → (when test a ≡ none) ↔ (test ≡ false)
  unfolding when
  when_none true a = (λ e. absurd (let z : ◌≡◌ {A = ℕ} 0 1 = cc in omega arith), λ e. absurd (true_not_false refl e))
  when_none false a = (λ e. refl, λ e. refl)

  pub when_some : (test : Bool) (a b : A) → when test a ≡ some b → (test ≡ true) × (a ≡ b)
  unfolding when
  when_some true a b e = (refl, ap (λ (o : Option A). elim o [ none ↦ a | some x ↦ x ]) e)
  when_some false a b e = absurd (let z : ◌≡◌ {A = ℕ} 0 1 = cc in omega arith)

else_none : {A : Type 0} (a b : Option A) → or_else a b ≡ none → (a ≡ none) × (b ≡ none)
unfolding or_else
else_none none b e = (refl, e)
else_none (some a) b e = absurd (let z : ◌≡◌ {A = ℕ} 0 1 = cc in omega arith)

module _ {A : Type 0} (f : ℕ → Option A) where
  -- the loop's step: nothing below i, and nothing at i
  pub first_more : (i : ℕ) → first i f ≡ none → f i ≡ none → first (i + 1) f ≡ none
  unfolding first or_else
  first_more i p q = rw (add-one i) (rw p q)

  pub first-none : (n : ℕ) → first n f ≡ none → (i : ℕ) → i < n → f i ≡ none
  unfolding first
  first-none zero e i h = absurd (not-suc-le-zero h)
  first-none (suc n) e i h =
      let both = else_none (first n f) (f n) e in
      ⊎_elim (λ q. subst (λ (k : ℕ). f k ≡ none) (sym q) both.1) (λ l. first-none n both.0 i l) (last-or-below h)

  pub first-nothing : (n : ℕ) → ((i : ℕ) → i < n → f i ≡ none) → first n f ≡ none
  unfolding first or_else
  first-nothing zero h = refl
  first-nothing (suc n) h = rw (first-nothing n (λ i l. h i (le_step l))) (h n (lt-suc_self n))

  pub first_found : (n : ℕ) (a : A) → first n f ≡ some a → FoundAt n f a
  unfolding first or_else
  first_found zero a e = absurd (let z : ◌≡◌ {A = ℕ} 0 1 = cc in omega arith)
  first_found (suc n) a e = go (first n f) refl (first_found n a)
    where
      go : (o : Option A) → first n f ≡ o → (first n f ≡ some a → FoundAt n f a) → FoundAt (suc n) f a
      go none q rest = record { at = n; below = lt-suc_self n; found = sym (rw q) ∙ e; before = first-none n q }
      go (some x) q rest =
          let w = rest (q ∙ sym (rw q) ∙ e) in
          record { at = w.at; below = le_step w.below; found = w.found; before = w.before }

  pub first_at : (n : ℕ) (a : A) → FoundAt n f a → first n f ≡ some a
  unfolding first or_else
  first_at zero a w = absurd (not-suc-le-zero w.below)
  first_at (suc n) a w =
      ⊎_elim
      (λ q. rw (first-nothing n (λ j l. w.before j (subst (λ (k : ℕ). j < k) (sym q) l)))
      (subst (λ (k : ℕ). f k ≡ some a) q w.found))
      (λ l. rw (first_at n a (record { at = w.at; below = l; found = w.found; before = w.before })))
      (last-or-below w.below)

pub first-same : {A : Type 0} (n : ℕ) (f g : ℕ → Option A) → ((i : ℕ) → i < n → f i ≡ g i) → first n f ≡ first n g
unfolding first
first-same zero f g h = refl
first-same (suc n) f g h = rw (first-same n f g (λ i l. h i (le_step l)), h n (lt-suc_self n)) refl

-- ---- the least number that passes a test

-- t is below n and passes, and no number before it does.
pub record LeastAt (n : ℕ) (f : ℕ → Bool) (t : ℕ) : Type 0 where
  pub below : t < n
  pub passing : f t ≡ true
  pub before : (j : ℕ) → j < t → f j ≡ false

module _ (n : ℕ) (f : ℕ → Bool) where
  pub least-found : (t : ℕ) → least n f ≡ some t → LeastAt n f t
  unfolding least
  least-found t e =
      let w = first_found _ n t e in
      let (passing, same) = when_some _ _ _ w.found in
      subst (LeastAt n f) same
      (record { below = w.below; passing = passing; before = λ j l. (when_none _ j).0 (w.before j l) })

  pub least-none : least n f ≡ none → (i : ℕ) → i < n → f i ≡ false
  unfolding least
  least-none e i h = (when_none _ i).0 (first-none _ n e i h)

  pub least_at : (t : ℕ) → LeastAt n f t → least n f ≡ some t
  unfolding least when
  least_at t w =
      first_at _ n t
      (record { at = t; below = w.below; found = rw w.passing; before = λ j l. rw (w.before j l) })

-- ---- a loop that searches, written as its answer: found at i, or i has come to the bound
module _ (f : ℕ → Bool) where
  pub scan_hit : (n i : ℕ) → i < n → f i ≡ true → true ≡ any n f
  scan_hit n i h e = sym (any_at f n i h e)

  pub scan_done : (n i : ℕ) → i ≡ n → any i f ≡ false → false ≡ any n f
  scan_done n i q e = sym (subst (λ (k : ℕ). any k f ≡ false) q e)

-- ---- a loop that looks for the first: found at i, or i has come to the bound
module _ {A : Type 0} (f : ℕ → Option A) where
  pub first_hit : (n i : ℕ) (a : A) → i < n → first i f ≡ none → f i ≡ some a → first n f ≡ some a
  first_hit n i a h e q = first_at f n a (record { at = i; below = h; found = q; before = first-none f i e })

  pub first_done : (n i : ℕ) → i ≡ n → first i f ≡ none → first n f ≡ none
  first_done n i q e = subst (λ (k : ℕ). first k f ≡ none) q e

-- ---- searches compared: the same tests, and what a search that passed has found

-- Two tests that pass together are equal.
pub same_truth : (p q : Bool) → (p ≡ true → q ≡ true) → (q ≡ true → p ≡ true) → p ≡ q
same_truth true q f g = sym (f refl)
same_truth false q f g = sym (is_false q (λ e. true_not_false (g e) refl))

pub any_found : (n : ℕ) (f : ℕ → Bool) → any n f ≡ true → (i : ℕ) × (i < n) × (f i ≡ true)
unfolding any
any_found zero f e = absurd (true_not_false e refl)
any_found (suc n) f e =
    ⊎_elim
    (λ here. (n, lt-suc_self n, here))
    (λ none_here. let w = any_found n f (sym (or_else-first _ _ none_here) ∙ e) in (w.0, le_step w.1, w.2))
    (true_or_false _)
  where
    or_else-first : (p q : Bool) → q ≡ false → (p || q) ≡ p
    or_else-first p q h = rw h (or-false p)

-- A search in which every test fails.
pub any_fails : (n : ℕ) (f : ℕ → Bool) → ((i : ℕ) → i < n → f i ≡ false) → any n f ≡ false
any_fails n f h = is_false _ (λ e. let w = any_found n f e in true_not_false w.2 (h w.0 w.1))

pub any_same : (n : ℕ) (f g : ℕ → Bool) → ((i : ℕ) → i < n → f i ≡ g i) → any n f ≡ any n g
any_same n f g h =
    same_truth _ _
    (λ e. let w = any_found n f e in any_at g n _ w.1 (sym (h w.0 w.1) ∙ w.2))
    (λ e. let w = any_found n g e in any_at f n _ w.1 (h w.0 w.1 ∙ w.2))

pub all_same : (n : ℕ) (f g : ℕ → Bool) → ((i : ℕ) → i < n → f i ≡ g i) → all n f ≡ all n g
all_same n f g h =
    same_truth _ _
    (λ e. all_intro g n (λ i l. sym (h i l) ∙ all_at f n e i l))
    (λ e. all_intro f n (λ i l. h i l ∙ all_at g n e i l))

-- ---- a search of two tests

module _ (n : ℕ) (f g : ℕ → Bool) where
  pub both_found : any n (λ i. f i && g i) ≡ true → (i : ℕ) × (i < n) × (f i ≡ true) × (g i ≡ true)
  both_found e =
      let w = any_found n _ e in
      (w.0, w.1, and_left _ _ w.2, and_right (f w.0) _ w.2)

  pub both_at : (i : ℕ) → i < n → f i ≡ true → g i ≡ true → any n (λ i. f i && g i) ≡ true
  both_at i h p q = any_at _ n i h (and_now _ _ p ∙ q)

-- ---- how many pass

pub count_le : (n : ℕ) (f : ℕ → Bool) → count n f ≤ n
unfolding count
count_le zero f = omega arith
count_le (suc n) f = more (f n) (count n f) (count_le n f)
  where
    more : (b : Bool) (k : ℕ) → k ≤ n → k + cond b 1 0 ≤ suc n
    more true k h = omega arith
    more false k h = omega arith

pub count_same : (n : ℕ) (f g : ℕ → Bool) → ((i : ℕ) → i < n → f i ≡ g i) → count n f ≡ count n g
unfolding count
count_same zero f g h = refl
count_same (suc n) f g h = rw (count_same n f g (λ i l. h i (le_step l)), h n (lt-suc_self n))

-- One number more.
pub count_next : (f : ℕ → Bool) (i : ℕ) → count (i + 1) f ≡ count i f + cond (f i) 1 0
unfolding count
count_next f i = rw (add-one i)

pub count_none : (n : ℕ) → count n (λ i. false) ≡ 0
unfolding count
count_none zero = refl
count_none (suc n) = rw (count_none n)

-- One number passes.
pub count_one : (n s : ℕ) → s < n → count n (λ t. eqb s t) ≡ 1
unfolding count
count_one zero s h = absurd (not-suc-le-zero h)
count_one (suc n) s h =
    ⊎_elim
    (λ e.
    let none_before = count_same n _ (λ t. false) (λ t l. ne_eqb s t (λ d. omega arith)) ∙ count_none n in
    rw (none_before, eq-eqb s n e))
    (λ l. rw (count_one n s l, ne_eqb s n (λ e. omega arith)))
    (last-or-below h)

-- Where one test passes another does: it passes at least as often, and more often if it passes once where the first
-- does not.
module _ (f g : ℕ → Bool) where
  one_le : (i : ℕ) → (f i ≡ true → g i ≡ true) → cond (f i) 1 0 ≤ cond (g i) 1 0
  one_le i h = le (f i) (g i) h
    where
      le : (p q : Bool) → (p ≡ true → q ≡ true) → cond p 1 0 ≤ cond q 1 0
      le true true h = omega arith
      le true false h = absurd (true_not_false (h refl) refl)
      le false true h = omega arith
      le false false h = omega arith

  pub count_wider : (n : ℕ) → ((i : ℕ) → i < n → f i ≡ true → g i ≡ true) → count n f ≤ count n g
  unfolding count
  count_wider zero h = omega arith
  count_wider (suc n) h = omega (arith, count_wider n (λ i l. h i (le_step l)), one_le n (h n (lt-suc_self n)))

  pub count_grows : (n t : ℕ) → t < n → f t ≡ false → g t ≡ true → ((i : ℕ) → i < n → f i ≡ true → g i ≡ true)
      → count n f < count n g
  unfolding count
  count_grows zero t l p q h = absurd (not-suc-le-zero l)
  count_grows (suc n) t l p q h =
      let rest : (i : ℕ) → i < n → f i ≡ true → g i ≡ true = λ i l. h i (le_step l) in
      ⊎_elim
      (λ e.
      let top : f n ≡ false = subst (λ (k : ℕ). f k ≡ false) e p in
      let top' : g n ≡ true = subst (λ (k : ℕ). g k ≡ true) e q in
      rw (top, top') (omega (arith, count_wider n rest)))
      (λ m. omega (arith, count_grows n t m p q rest, one_le n (h n (lt-suc_self n))))
      (last-or-below l)

-- At least one where some number passes.
pub count-some : (n : ℕ) (f : ℕ → Bool) (t : ℕ) → t < n → f t ≡ true → 1 ≤ count n f
count-some n f t h e =
    omega (
      arith,
      count_none n,
      count_grows (λ i. false) f n t h refl e (λ i l w. absurd (true_not_false w refl)),
    )

-- Different numbers that pass are no more than those that pass.
pub count_different : (k n : ℕ) (g : ℕ → ℕ) (f : ℕ → Bool) → ((i : ℕ) → i < k → (g i < n) × (f (g i) ≡ true))
    → ((i j : ℕ) → i < j → j < k → g i ≡ g j → ⊥) → k ≤ count n f
count_different zero n g f passing apart = omega arith
count_different (suc k) n g f passing apart =
    let (below, e) = passing k (lt-suc_self k) in
    let others : ℕ → Bool = λ t. f t && not (eqb (g k) t) in
    let fewer =
    count_different k n g others
    (λ i h.
    let (below, e) = passing i (le_step h) in
    (below, rw (e, ne_eqb (g k) (g i) (λ q. apart i k h (lt-suc_self k) (sym q)))))
    (λ i j h l. apart i j h (le_step l)) in
    omega (
      arith,
      count_grows others f n (g k) below (rw (e, eq-eqb (g k) (g k) refl)) e (λ i l w. and_left _ _ w),
    )

-- How many pass of the first m, and of the n behind them.
pub count_add : (m n : ℕ) (f : ℕ → Bool) → count (m + n) f ≡ count m f + count n (λ i. f (m + i))
unfolding count
count_add m zero f = rw (add-zero m) (sym (add-zero (count m f)))
count_add m (suc n) f =
    let whole : m + suc n ≡ suc (m + n) = omega arith in
    rw (whole, count_add m n f) (omega arith)

-- How many pass one of two tests: those that pass the first, and those that pass the second alone.
pub count-or : (n : ℕ) (f g : ℕ → Bool) → count n (λ i. f i || g i) ≡ count n f + count n (λ i. g i && not (f i))
unfolding count
count-or zero f g = refl
count-or (suc n) f g = rw (count-or n f g) (one (f n) (g n) (count n f) (count n (λ i. g i && not (f i))))
  where
    one : (p q : Bool) (j k : ℕ) → j + k + cond (p || q) 1 0 ≡ j + cond p 1 0 + (k + cond (q && not p) 1 0)
    one true true j k = omega arith
    one true false j k = omega arith
    one false true j k = omega arith
    one false false j k = omega arith

-- ---- sums

pub total-same : (n : ℕ) (f g : ℕ → ℕ) → ((i : ℕ) → i < n → f i ≡ g i) → total n f ≡ total n g
unfolding total
total-same zero f g h = refl
total-same (suc n) f g h = rw (total-same n f g (λ i l. h i (le_step l)), h n (lt-suc_self n))

pub total_next : (f : ℕ → ℕ) (i : ℕ) → total (i + 1) f ≡ total i f + f i
unfolding total
total_next f i = rw (add-one i)

-- Terms within bounds.
pub total-within : (n low high : ℕ) (f : ℕ → ℕ) → ((i : ℕ) → i < n → (low ≤ f i) × (f i ≤ high))
    → (n * low ≤ total n f) × (total n f ≤ n * high)
unfolding total
total-within zero low high f h = (omega arith, omega arith)
total-within (suc n) low high f h =
    let (least, most) = total-within n low high f (λ i l. h i (le_step l)) in
    let (p, q) = h n (lt-suc_self n) in
    (rw (suc-mul n low) (omega arith), rw (suc-mul n high) (omega arith))

-- ---- the largest

-- Equal terms have one largest.
pub largest-same : (n : ℕ) (f g : ℕ → ℕ) → ((i : ℕ) → i < n → f i ≡ g i) → largest n f ≡ largest n g
unfolding largest
largest-same zero f g h = refl
largest-same (suc n) f g h = rw (largest-same n f g (λ i l. h i (le_step l)), h n (lt-suc_self n))

-- One term more.
pub largest_next : (f : ℕ → ℕ) (i : ℕ) → largest (i + 1) f ≡ max (largest i f) (f i)
unfolding largest
largest_next f i = rw (add-one i)

-- No term is larger.
pub largest_at : (n : ℕ) (f : ℕ → ℕ) (i : ℕ) → i < n → f i ≤ largest n f
unfolding largest
largest_at zero f i h = absurd (not-suc-le-zero h)
largest_at (suc n) f i h =
    ⊎_elim
    (λ e. omega (arith, ap f e))
    (λ l. omega (arith, largest_at n f i l))
    (last-or-below h)

-- No more than a bound on each term.
pub largest_le : (n k : ℕ) (f : ℕ → ℕ) → ((i : ℕ) → i < n → f i ≤ k) → largest n f ≤ k
unfolding largest
largest_le zero k f h = omega arith
largest_le (suc n) k f h = omega (arith, largest_le n k f (λ i l. h i (le_step l)), h n (lt-suc_self n))

-- Some term is as large.
pub largest-reached : (n : ℕ) (f : ℕ → ℕ) → 1 ≤ n → (i : ℕ) × (i < n) × (f i ≡ largest n f)
unfolding largest
largest-reached zero f h = absurd (omega arith)
largest-reached (suc n) f h =
    elim (dec_le (largest n f) (f n)) [
      | yes l ↦ (n, lt-suc_self n, omega arith)
      | no l ↦
          elim (dec_le 1 n) [
            | yes k ↦ let (i, below, e) = largest-reached n f k in (i, le_step below, omega arith)
            | no k ↦ let z : n ≡ 0 = omega arith in absurd (l (omega (arith, ap (λ (k : ℕ). largest k f) z)))
          ]
    ]
