-- A finer partition beside one: no fine class stands in two classes exactly if states of one fine class have one class.
use Prim.Native.Nat.{ℕ, suc, ◌≤◌, ◌<◌}
use mathlib.Core.Path.{◌≡◌, refl, sym, ap, ◌∙◌}
use mathlib.Core.Bool.{Bool, true, false, not, ◌&&◌}
use mathlib.Core.Logic.{◌↔◌, ⊎_elim}
use mathlib.Core.List.{List}
use native.Mathlib.Decide.{dec_lt}
use native.Mathlib.Omega.{arith}
use lib.ListN.{get_or}
use lib.Dec.{eqb}
use borrow.Author.Tests.{eqb-true, eq-eqb, ne_eqb, not-false}
use Rattle.bounded.proofs.Search.{any_none, any_fails, and_now, true_or_false, is_true, true_not_false}
use Rattle.words.specs.Sets.{bit}
use Rattle.words.proofs.Sets.{represents_mask}
use Rattle.partition.specs.Classes.{same_class, crosses}
use Rattle.partition.specs.Sets.{Inside, ClassOf, ClasswiseEqual}

module _ (n : ℕ) (class fine : ℕ → ℕ) where
  pub crosses-none : crosses n class fine ≡ false → Inside n class fine
  unfolding crosses same_class
  crosses-none e r s h l q =
      elim (dec_lt r s) [
        | yes i ↦ earlier r s l i q
        | no i ↦ elim (dec_lt s r) [
          | yes j ↦ sym (earlier s r h j (sym q))
          | no j ↦ let same : r ≡ s = omega arith in ap class same
        ]
      ]
    where
      earlier : (r s : ℕ) → s < n → r < s → fine r ≡ fine s → class r ≡ class s
      earlier r s l i q =
          let out = any_none _ _ (any_none _ _ e s l) r i in
          eqb-true _ _ (not-false _ (sym (and_now (eqb (fine r) (fine s)) _ (eq-eqb _ _ q)) ∙ out))

  pub crosses-not : Inside n class fine → crosses n class fine ≡ false
  unfolding crosses same_class
  crosses-not inside =
      any_fails _ _ (λ s l. any_fails s _ (λ r i. earlier r s l i))
    where
      earlier : (r s : ℕ) → s < n → r < s → (eqb (fine r) (fine s) && not (eqb (class r) (class s))) ≡ false
      earlier r s l i =
          ⊎_elim
          (λ (t : eqb (fine r) (fine s) ≡ true).
          rw (t, eq-eqb _ _ (inside r s (omega arith) l (eqb-true _ _ t))) refl)
          (λ (f : eqb (fine r) (fine s) ≡ false). rw f refl)
          (true_or_false _)

  -- With the class of each state as a set of one: the states of a fine class have the same set.
  module _ (labels : List ℕ) (of : ClassOf n class labels) where
    label_same : (r s : ℕ) → r < n → s < n → (get_or labels r 0 ≡ get_or labels s 0) ↔ (class r ≡ class s)
    label_same r s h l = (
      λ e.
          sym (eqb-true _ _ (sym (of.words s l (class r)) ∙ ap (λ (x : ℕ). bit x (class r)) (sym e)
          ∙ of.words r h (class r) ∙ eq-eqb (class r) (class r) refl)),
      λ e.
          let none : (c : ℕ) → suc (class r) ≤ c → eqb (class r) c ≡ false = λ c k. ne_eqb (class r) c (λ q. omega arith) in
          represents_mask _ _ (eqb (class r)) none (of.words r h)
          ∙ sym (represents_mask _ _ (eqb (class r)) none (λ c. of.words s l c ∙ ap (λ (d : ℕ). eqb d c) (sym e))),
    )

    pub labels-inside : ClasswiseEqual n fine labels ↔ Inside n class fine
    unfolding same_class
    labels-inside = (
      λ equal r s h l q. (label_same r s h l).0 (equal s r l h (eq-eqb _ _ q)),
      λ inside s u h l q. (label_same u s l h).1 (inside u s l h (eqb-true _ _ q)),
    )

    -- So the answer whether they have is the answer whether none crosses.
    pub crosses_by : (equal : Bool) → (equal ≡ true) ↔ ClasswiseEqual n fine labels → not equal ≡ crosses n class fine
    crosses_by true w = sym (crosses-not (labels-inside.0 (w.0 refl)))
    crosses_by false w =
        sym (is_true _ (λ e. true_not_false (w.1 (labels-inside.1 (crosses-none e))) refl))
