-- Columns that are numbered by first appearance: how many classes the states so far have.
use Prim.Native.Nat.{ℕ, zero, suc, ◌≤◌, ◌<◌}
use mathlib.Core.Path.{◌≡◌}
use mathlib.Core.Bool.{false}
use mathlib.Core.List.{List}
use native.Mathlib.Decide.{dec_le}
use native.Mathlib.Omega.{arith}
use lib.ListN.{length}
use borrow.Author.Tests.{ltb-false}
use Rattle.bounded.proofs.Search.{any_none}
use Rattle.words.specs.LittleEndian.{byte}
use Rattle.partition.specs.Sets.{Partition}
use Rattle.part.specs.Record.{classes_below}
use Rattle.screening.specs.Rejections.{unnumbered, skips_at}

module _ (column : List ℕ) where
  pub classes_monotone : (m n : ℕ) → m ≤ n → classes_below column m ≤ classes_below column n
  unfolding classes_below
  classes_monotone m zero h = let e : m ≡ 0 = omega arith in rw e (omega arith)
  classes_monotone m (suc n) h =
      elim (dec_le m n) [
        | yes l ↦ let r = classes_monotone m n l in omega arith
        | no l ↦ let e : m ≡ suc n = omega arith in
            rw e (omega arith)
      ]

  pub class-counted : (s n : ℕ) → s < n → byte column s < classes_below column n
  unfolding classes_below
  class-counted s n h = let r = classes_monotone _ n h in omega arith

  -- the largest class before is the class of some state
  pub largest-class : (s : ℕ) → (r : ℕ) × (r ≤ s) × (classes_below column (suc s) ≡ suc (byte column r))
  unfolding classes_below
  largest-class zero = (0, omega arith, omega arith)
  largest-class (suc s) =
      let before = largest-class s in
      elim (dec_le (classes_below column (suc s)) (suc (byte column (suc s))))
      [ yes l ↦ (suc s, omega arith, omega arith) | no l ↦ (before.0, omega arith, omega arith) ]

  module _ (e : unnumbered column ≡ false) where
    -- a state's class is one of those before it, or the next
    pub class-step : (s : ℕ) → s < length column → byte column s ≤ classes_below column s
    unfolding unnumbered skips_at
    class-step s h = ltb-false _ _ (any_none _ _ e s h)

    pub classes-few : (n : ℕ) → n ≤ length column → classes_below column n ≤ n
    unfolding classes_below
    classes-few zero h = omega arith
    classes-few (suc n) h = let before = classes-few n (omega arith) in let step = class-step n h in omega arith

    -- so it is at most the state's number
    pub class-small : (s : ℕ) → s < length column → byte column s ≤ s
    class-small s h = omega (arith, class-step s h, classes-few s (omega arith))

    pub partition : length column ≤ 64 → Partition column
    partition few = record { few = few; below = λ s h. omega (arith, class-small s h) }
