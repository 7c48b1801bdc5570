-- A loop over the states that keeps the classes it has seen: whether two states share one, and the first word of each.
use Prim.Native.Nat.{ℕ, ◌+◌, ◌<◌}
use mathlib.Core.Path.{◌≡◌, refl, sym, ap, ◌∙◌}
use mathlib.Core.Bool.{true, false, ◌||◌, or-true}
use mathlib.Core.Logic.{⊎_elim}
use mathlib.Core.List.{List}
use native.Mathlib.Decide.{dec_lt}
use native.Mathlib.Omega.{arith}
use lib.ListN.{length, get_or, set}
use lib.Dec.{eqb}
use borrow.Author.Tests.{eqb-true, eq-eqb}
use borrow.Author.Count.{below_more}
use Rattle.bounded.proofs.Search.{or_now, or-then, true_or_false, true_not_false}
use Rattle.words.specs.Sets.{bit, union, single}
use Rattle.words.proofs.Sets.{bit_zero, bit-single, bit-union}
use Rattle.partition.specs.Classes.{same_class}
use Rattle.partition.specs.Sets.{AllDistinct, ClasswiseEqual}
use Rattle.partition.proofs.ClassRows.{ByClass, by_class_put}

module _ (class : ℕ → ℕ) where
  -- The word has the classes of the first n states, and no others.
  pub record Seen (n x : ℕ) : Type 0 where
    pub has : (u : ℕ) → u < n → bit x (class u) ≡ true
    pub only : (c : ℕ) → bit x c ≡ true → (u : ℕ) × (u < n) × (class u ≡ c)

  pub seen_none : Seen 0 0
  seen_none = record { has = λ u h. absurd (omega arith); only = λ c e. absurd (true_not_false e (bit_zero c)) }

  pub seen_kept : (n k x : ℕ) → k ≡ class n → bit x k ≡ true → Seen n x → Seen (n + 1) x
  seen_kept n k x of-class e before = record {
    has = below_more (λ u. bit x (class u) ≡ true) n before.has (rw (← of-class) e);
    only = λ c q. let w = before.only c q in (w.0, omega (arith, w.1), w.2);
  }

  pub seen_more : (n k x y : ℕ) → k ≡ class n → y ≡ union x (single k) → Seen n x → Seen (n + 1) y
  seen_more n k x y of-class more before =
      let either : (c : ℕ) → bit y c ≡ (bit x c || eqb k c) = λ c. rw (more, bit-union x _ c, bit-single k c) refl in
      record {
        has =
            below_more (λ u. bit y (class u) ≡ true) n (λ u h. either (class u) ∙ or_now (bit x (class u)) (eqb k (class u)) (before.has u h))
            (either _ ∙ rw (eq-eqb k _ of-class) (or-true (bit x (class n))));
        only = λ c q.
            ⊎_elim
            (λ e. let w = before.only c e in (w.0, omega (arith, w.1), w.2))
            (λ e. (n, omega arith, sym of-class ∙ eqb-true k c (sym (or-then _ _ e) ∙ sym (either c) ∙ q)))
            (true_or_false _);
      }

  -- No earlier state has a class that is not seen.
  unseen : (n k x : ℕ) → bit x k ≡ false → Seen n x → (u : ℕ) → u < n → class u ≡ k → ⊥
  unseen n k x e before u h q = true_not_false (before.has u h) (rw q e)

  -- ---- no two states share a class

  -- Of the first n states, whose classes are in the word x.
  pub record Apart (n x : ℕ) : Type 0 where
    pub seen : Seen n x
    pub apart : (s u : ℕ) → s < n → u < n → class u ≡ class s → u ≡ s

  pub apart_none : Apart 0 0
  apart_none = record { seen = seen_none; apart = λ s u h l e. absurd (omega arith) }

  pub apart_more : (n k x y : ℕ) → k ≡ class n → bit x k ≡ false → y ≡ union x (single k) → Apart n x → Apart (n + 1) y
  apart_more n k x y of-class new more before =
      let none = unseen n k x new before.seen in
      record {
        seen = seen_more n k x y of-class more before.seen;
        apart = λ s u h l e.
            elim (dec_lt s n) [
              | yes i ↦
                  elim (dec_lt u n) [
                    | yes j ↦ before.apart s u i j e
                    | no j ↦ let q : u ≡ n = omega arith in absurd (none s i (sym e ∙ ap class q ∙ sym of-class))
                  ]
              | no i ↦
                  let q : s ≡ n = omega arith in
                  elim (dec_lt u n) [ yes j ↦ absurd (none u j (e ∙ ap class q ∙ sym of-class)) | no j ↦ omega arith ]
            ];
      }

  pub apart-all : (n m x : ℕ) → m ≡ n → Apart m x → AllDistinct n class
  unfolding same_class
  apart-all n m x e before s u h l same = before.apart s u (omega arith) (omega arith) (eqb-true _ _ same)

  -- The class of the state m is seen: an earlier state has it.
  pub not_distinct : (n m k x : ℕ) → m < n → k ≡ class m → bit x k ≡ true → Seen m x → AllDistinct n class → ⊥
  unfolding same_class
  not_distinct n m k x h of-class e before distinct =
      let w = before.only k e in
      let same = distinct m w.0 h (omega (arith, w.1)) (eq-eqb _ _ (w.2 ∙ of-class)) in
      omega (arith, w.1, same)

-- ---- the states of a class have the same word

module _ (class : ℕ → ℕ) (words : List ℕ) where
  -- The word of each of the first n states of class c is y.
  abbrev Same : ℕ → ℕ → ℕ → Type 0
  Same n c y = (u : ℕ) → u < n → class u ≡ c → get_or words u 0 ≡ y

  abbrev pub Firsts : ℕ → List ℕ → Type 0
  Firsts = ByClass Same

  pub firsts_none : (firsts : List ℕ) → length firsts ≡ 64 → Firsts 0 firsts
  firsts_none firsts e = record { size = e; rows = λ c h u l. absurd (omega arith) }

  -- Any word may stand for a class that is not seen.
  pub firsts_put : (n k x y : ℕ) (firsts : List ℕ) → k < 64 → bit x k ≡ false → Seen class n x → Firsts n firsts
      → Firsts n (set firsts k y)
  firsts_put n k x y firsts small new seen before =
      by_class_put Same n n k y _ small before (λ u h q. absurd (unseen class n k x new seen u h q)) (λ c d z h. h)

  -- The state n has the word of its class.
  pub firsts_more : (n k : ℕ) (firsts : List ℕ) → k ≡ class n → get_or firsts k 0 ≡ get_or words n 0 → Firsts n firsts
      → Firsts (n + 1) firsts
  firsts_more n k firsts of-class e before = record {
    size = before.size;
    rows = λ c h. below_more (λ u. class u ≡ c → get_or words u 0 ≡ get_or firsts c 0) n (before.rows c h) (λ q. sym e ∙ ap (λ (d : ℕ). get_or firsts d 0) (of-class ∙ q));
  }

  pub firsts_equal : (n m : ℕ) (firsts : List ℕ) → m ≡ n → ((s : ℕ) → s < n → class s < 64) → Firsts m firsts
      → ClasswiseEqual n class words
  unfolding same_class
  firsts_equal n m firsts e below before s u h l same =
      let at = before.rows (class s) (below s h) in at u (omega arith) (eqb-true _ _ same)
      ∙ sym (at s (omega arith) refl)

  -- The state m has another word than its class, which an earlier state has too.
  pub firsts_differ : (n m k x : ℕ) (firsts : List ℕ) → m < n → k ≡ class m → k < 64 → bit x k ≡ true → Seen class m x
      → Firsts m firsts
      → (get_or firsts k 0 ≡ get_or words m 0 → ⊥) → ClasswiseEqual n class words → ⊥
  unfolding same_class
  firsts_differ n m k x firsts h of-class small e seen before other equal =
      let w = seen.only k e in
      other (sym (before.rows k small w.0 w.1 w.2)
      ∙ equal m w.0 h (omega (arith, w.1)) (eq-eqb _ _ (w.2 ∙ of-class)))
