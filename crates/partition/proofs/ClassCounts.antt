-- A loop over the states that counts, by class, the fine classes that it has seen; and the largest of the counts.
use Prim.Native.Nat.{ℕ, ◌+◌, ◌≤◌, ◌<◌, max}
use mathlib.Core.Path.{◌≡◌, refl, sym, ap, ◌∙◌}
use mathlib.Core.Bool.{Bool, true, false, not, ◌&&◌, cond}
use mathlib.Core.List.{List}
use native.Mathlib.Nat.{add-zero}
use lib.Dec.{eqb}
use lib.ListN.{get_or, set, replicate}
use borrow.Author.Tests.{eqb-true, eq-eqb, ne_eqb}
use native.Mathlib.Omega.{arith}
use mir.Val.{bool_byte}
use Rattle.std.specs.Ordering.{ord_max, nat_cmp}
use Rattle.std.proofs.lemmas.Bool.Decides.{nat_tests}
use Rattle.bounded.specs.Search.{any, count, largest}
use Rattle.bounded.proofs.Search.{any_at, any_found, same_truth, count_le, count_next, largest-same}
use Rattle.words.specs.Sets.{bit}
use Rattle.partition.specs.Classes.{same_class, is_first, fine_classes, limit}
use Rattle.partition.specs.Sets.{FineClasses}
use Rattle.partition.proofs.ClassRows.{ByClass, by_class-none, by_class_put}
use Rattle.partition.proofs.ClassSeen.{Seen}

-- A state is the first of its fine class where that is not seen before it.
first-unseen : (fine : ℕ → ℕ) (n x : ℕ) → Seen fine n x → is_first fine n ≡ not (bit x (fine n))
unfolding is_first same_class
first-unseen fine n x seen =
    let earlier : ℕ → Bool = λ u. eqb (fine u) (fine n) in
    ap not
    (same_truth (any n earlier) _
    (λ e. let (u, h, same) = any_found n earlier e in ap (bit x) (sym (eqb-true _ _ same)) ∙ seen.has u h)
    (λ e. let (u, h, same) = seen.only (fine n) e in any_at earlier n u h (eq-eqb _ _ same)))

-- The larger of two numbers, as the library's `max` tells it.
pub larger : (x y : ℕ) → ord_max nat_cmp x y ≡ max x y
larger x y = grind (arith, nat_tests)

-- One more, or none.
pub bool-most : (b : Bool) → bool_byte (not b) ≤ 1
bool-most true = omega arith
bool-most false = omega arith

module _ (class fine : ℕ → ℕ) where
  -- y is the number of fine classes whose first state is below n and has class c.
  abbrev Counts : ℕ → ℕ → ℕ → Type 0
  Counts n c y = y ≡ fine_classes n class fine c

  -- The numbers are so for each class.
  abbrev pub Counted : ℕ → List ℕ → Type 0
  Counted = ByClass Counts

  -- No state yet.
  pub counted_none : (counts : List ℕ) → counts ≡ replicate 64 0 → Counted 0 counts
  unfolding fine_classes count
  counted_none counts e = by_class-none Counts _ _ e (λ c. refl)

  -- One state more.
  fine_classes_next : (n c : ℕ)
      → fine_classes (n + 1) class fine c ≡ fine_classes n class fine c + cond (eqb (class n) c && is_first fine n) 1 0
  unfolding fine_classes
  fine_classes_next n c = count_next _ n

  -- The state n of class k counts one more at k, where its fine class is not seen yet.
  pub counted-more : (n k j x y : ℕ) (counts : List ℕ) → k ≡ class n → k < 64 → j ≡ fine n → Seen fine n x
      → y ≡ get_or counts k 0 + bool_byte (not (bit x j))
      → Counted n counts → Counted (n + 1) (set counts k y)
  counted-more n k j x y counts of-class small of-fine seen more before =
      by_class_put Counts n _ k y _ small before
      (rw (
        more,
        of-fine,
        before.rows k small,
        fine_classes_next n k,
        eq-eqb _ k (sym of-class),
        first-unseen fine n x seen,
      ) (one (bit x (fine n)) _))
      (λ c d z h. rw (h, fine_classes_next n c, ne_eqb _ c (λ e. d (of-class ∙ e))) (sym (add-zero _)))
    where
      one : (b : Bool) (k : ℕ) → k + bool_byte (not b) ≡ k + cond (not b) 1 0
      one true k = refl
      one false k = refl

  -- No more than there are states.
  pub counted_le : (n k : ℕ) (counts : List ℕ) → k < 64 → Counted n counts → get_or counts k 0 ≤ n
  unfolding fine_classes
  counted_le n k counts small before = rw (before.rows k small) (count_le n _)

  -- The largest count of the class of a state is the limit.
  pub counted-limit : (n : ℕ) (counts : List ℕ) → ((s : ℕ) → s < n → class s < 64) → FineClasses n class fine counts
      → largest n (λ s. get_or counts (class s) 0) ≡ limit n class fine
  unfolding limit
  counted-limit n counts below of = largest-same n _ _ (λ s h. of (class s) (below s h))
