-- Words into which a loop sorts the numbers below a bound, each into the word at its key.
use Prim.Native.Nat.{ℕ, ◌+◌, ◌<◌}
use mathlib.Core.Path.{◌≡◌, sym, ap, ◌∙◌}
use mathlib.Core.Bool.{Bool, ◌||◌, ◌&&◌, and-true, and-false, or-false}
use mathlib.Core.List.{List}
use native.Mathlib.Decide.{dec_lt, ℕ_discrete}
use native.Mathlib.Omega.{arith}
use lib.Dec.{eqb, ltb}
use lib.Seq.{get_or-set_same, get_or-set_other}
use lib.ListN.{length, get_or, set, replicate, length-replicate, get_or-replicate, length-set}
use borrow.Author.Tests.{lt-ltb, le-ltb, eq-eqb, ne_eqb}
use Rattle.words.specs.Sets.{union, single, Represents}
use Rattle.words.proofs.Sets.{bit_zero, bit-union, bit-single}

-- The numbers below i + 1 that pass a test are those below i, and i if it does.
pub below_next : (f : ℕ → Bool) (i j : ℕ) → (ltb j (i + 1) && f j) ≡ (ltb j i && f j || eqb i j && f i)
below_next f i j =
    elim (ℕ_discrete i j) [
      | yes e ↦ cc (lt-ltb j (i + 1) (omega arith), le-ltb j i (omega arith), eq-eqb i j e)
      | no d ↦
          elim (dec_lt j i) [
            | yes l ↦ cc (lt-ltb j (i + 1) (omega arith), lt-ltb j i l, ne_eqb i j d, or-false (f j))
            | no l ↦ cc (le-ltb j (i + 1) (omega (arith, d)), le-ltb j i (omega arith), ne_eqb i j d)
          ]
    ]

module _ (n : ℕ) (key : ℕ → ℕ) where
  -- Of n words, the one at k has the numbers below i with the key k.
  pub record Sorted (i : ℕ) (words : List ℕ) : Type 0 where
    pub size : length words ≡ n
    pub holds : (k : ℕ) → k < n → Represents (get_or words k 0) (λ j. ltb j i && eqb (key j) k)

  pub sorted_none : (words : List ℕ) → words ≡ replicate n 0 → Sorted 0 words
  sorted_none words e = record {
    size = ap length e ∙ length-replicate {A = ℕ} n 0;
    holds = λ k h j. cc (e, get_or-replicate {A = ℕ} n k 0 0 h, bit_zero j, le-ltb j 0 (omega arith));
  }

  -- The word at the key of i, with i.
  pub sorted_more : (i k y : ℕ) (words : List ℕ) → k ≡ key i → k < n → y ≡ union (get_or words k 0) (single i)
      → Sorted i words
      → Sorted (i + 1) (set words k y)
  sorted_more i k y words own small more before = record {
    size = length-set words k y ∙ before.size;
    holds = λ c h j.
        elim (ℕ_discrete k c) [
          | yes e ↦
              cc (
                get_or-set_same words k y 0 (omega (arith, before.size)),
                bit-union (get_or words k 0) (single i) j,
                bit-single i j,
                before.holds c h j,
                below_next (λ u. eqb (key u) c) i j,
                eq-eqb _ c (sym own ∙ e),
                and-true _,
              )
          | no d ↦
              cc (
                get_or-set_other words k c y 0 (λ e. d (sym e)),
                before.holds c h j,
                below_next (λ u. eqb (key u) c) i j,
                ne_eqb _ c (λ e. d (own ∙ e)),
                and-false _,
                or-false _,
              )
        ];
  }
