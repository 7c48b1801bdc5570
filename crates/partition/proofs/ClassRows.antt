-- Words by class that a loop over the states makes, such as the classes that the states of a class all offer; and what
-- is looked up by state.
use Prim.Native.Nat.{ℕ, ◌+◌, ◌<◌}
use mathlib.Core.Path.{◌≡◌, refl, sym, ap, ◌∙◌, subst}
use mathlib.Core.Bool.{Bool, not, ◌||◌, ◌&&◌, and-true}
use mathlib.Core.List.{List}
use native.Mathlib.Decide.{ℕ_discrete}
use native.Mathlib.Omega.{arith}
use lib.Dec.{eqb, ltb}
use lib.ListN.{length, get_or, set, replicate, length-replicate, get_or-replicate, length-set}
use lib.Seq.{get_or-set_same, get_or-set_other}
use borrow.Author.Tests.{eqb-true, eq-eqb, ne_eqb, ltb-true}
use Rattle.bounded.specs.Search.{all}
use Rattle.bounded.proofs.Search.{all_next, any_at, any_found, same_truth, and_now, and_left, and_right, and_under}
use Rattle.words.specs.Sets.{bit, intersection, Represents, gathered}
use Rattle.words.proofs.Sets.{bit-intersection, bit_full}
use Rattle.partition.specs.Classes.{same_class}
use Rattle.partition.specs.Sets.{offered, StatesOf, OfferedByClass, offered_states}

-- ---- a word for each class

-- After n states the word y at class c is as `holds n c y` says.
pub record ByClass (holds : ℕ → ℕ → ℕ → Type 0) (n : ℕ) (words : List ℕ) : Type 0 where
  pub size : length words ≡ 64
  pub rows : (c : ℕ) → c < 64 → holds n c (get_or words c 0)

module _ (holds : ℕ → ℕ → ℕ → Type 0) where
  pub by_class-none : (y : ℕ) (words : List ℕ) → words ≡ replicate 64 y → ((c : ℕ) → holds 0 c y)
      → ByClass holds 0 words
  by_class-none y words e f = record {
    size = ap length e ∙ length-replicate {A = ℕ} 64 y;
    rows = λ c h. subst (holds 0 c) (sym (rw e (get_or-replicate 64 c y 0 h))) (f c);
  }

  -- The word at k is written; what held of those of the other classes goes on to hold.
  pub by_class_put : (n m k y : ℕ) (words : List ℕ) → k < 64 → ByClass holds n words → holds m k y
      → ((c : ℕ) → (k ≡ c → ⊥) → (x : ℕ) → holds n c x → holds m c x) → ByClass holds m (set words k y)
  by_class_put n m k y words small before here others = record {
    size = length-set words k y ∙ before.size;
    rows = λ c h.
        elim (ℕ_discrete k c) [
          | yes e ↦
              subst (λ (d : ℕ). holds m d (get_or (set words k y) d 0)) e
              (subst (holds m k) (sym (get_or-set_same words k y 0 (omega (arith, before.size)))) here)
          | no d ↦ subst (holds m c) (sym (get_or-set_other words k c y 0 (λ e. d (sym e))))
              (others c d (get_or words c 0) (before.rows c h))
        ];
  }

-- ---- the classes that all states of a class offer

module _ (class : ℕ → ℕ) (offers : List ℕ) where
  -- The word has the classes that each of the first n states of class c offers.
  abbrev Shares : ℕ → ℕ → ℕ → Type 0
  Shares n c y = (x : ℕ) → x < 64 → bit y x ≡ offered class offers n c x

  abbrev pub Shared : ℕ → List ℕ → Type 0
  Shared = ByClass Shares

  offered_next : (n c x : ℕ)
      → offered class offers (n + 1) c x
      ≡ (offered class offers n c x && (not (eqb (class n) c) || bit (get_or offers n 0) x))
  unfolding offered
  offered_next n c x = all_next _ n

  -- No state yet: every class.
  pub shared_none : (words : List ℕ) → words ≡ replicate 64 18446744073709551615 → Shared 0 words
  unfolding offered all
  shared_none words e = by_class-none Shares _ _ e (λ c x l. bit_full _ x l)

  -- The state n of class k narrows the word at k by its own.
  pub shared_more : (n k y : ℕ) (words : List ℕ) → k ≡ class n → k < 64
      → y ≡ intersection (get_or words k 0) (get_or offers n 0)
      → Shared n words → Shared (n + 1) (set words k y)
  shared_more n k y words of-class small narrowed before =
      by_class_put Shares n _ k y _ small before
      (λ x l.
      rw (
        narrowed,
        bit-intersection _ _ x,
        before.rows k small x l,
        offered_next n k x,
        eq-eqb _ k (sym of-class),
      ) refl)
      (λ c d z h x l. rw (h x l, offered_next n c x, ne_eqb _ c (λ e. d (of-class ∙ e))) (sym (and-true _)))

-- ---- looked up by state

module _ (n : ℕ) (class : ℕ → ℕ) (states : List ℕ) (of : StatesOf n class states) where
  -- The states of its class.
  pub class-mates : (s k : ℕ) → k ≡ class s → k < 64
      → Represents (get_or states k 0) (λ t. ltb t n && same_class class t s)
  unfolding same_class
  class-mates s k of-class small t = rw (of k small t, of-class) refl

  -- Of the words of the states, only that of the class of t has t.
  gathered-class : (x t : ℕ) → (t < n → class t < 64) → gathered 64 x states t ≡ (ltb t n && bit x (class t))
  unfolding gathered
  gathered-class x t small =
      let here : ℕ → Bool = λ c. bit x c && bit (get_or states c 0) t in
      same_truth _ _
      (λ e.
      let (c, l, found) = any_found _ _ e in
      let there = sym (of c l t) ∙ and_right (bit x c) _ found in
      let same : class t ≡ c = eqb-true _ _ (and_right (ltb t n) _ there) in
      and_now (ltb t n) _ (and_left _ (eqb (class t) c) there)
      ∙ ap (bit x) same ∙ and_left _ _ found)
      (λ e.
      let below = and_left _ _ e in
      let k = small (ltb-true t n below) in
      any_at _ _ _ k
      (and_now (bit x (class t)) _ (and_right (ltb t n) _ e)
      ∙ of (class t) k t ∙ rw (below, eq-eqb _ _ refl) refl))

  -- By state, the states of the classes that are common to its fine class.
  pub offered_states_at : (fine : ℕ → ℕ) (offers common : List ℕ) → ((s : ℕ) → s < n → class s < 64)
      → ((s : ℕ) → s < n → fine s < 64)
      → OfferedByClass n fine offers common
      → (s x : ℕ) → s < n → Represents x (gathered 64 (get_or common (fine s) 0) states)
      → Represents x (offered_states n class fine offers s)
  unfolding offered_states
  offered_states_at fine offers common below fine-below shared s x h g t =
      g t ∙ gathered-class _ t (below t)
      ∙ and_under _ _ _ (λ e. shared (fine s) (fine-below s h) (class t) (below t (ltb-true t n e)))
