-- The sets of the events that the rules speak of, from those of the inputs, of the events that the observer sees and of
-- the others.
use Prim.Native.Nat.{ℕ, ◌+◌, ◌<◌}
use mathlib.Core.Path.{◌≡◌, refl, sym, ap, ◌∙◌}
use mathlib.Core.Bool.{Bool, true, false, not, ◌||◌, ◌&&◌, and-true, and-false, or-false}
use mathlib.Core.List.{List}
use native.Mathlib.Omega.{arith}
use lib.Dec.{eqb, ltb}
use borrow.Author.Tests.{le-ltb}
use Rattle.words.specs.Sets.{bit, union, intersection, difference, single, Represents}
use Rattle.words.proofs.Sets.{bit_zero, bit-union, bit-intersection, bit-difference, bit-single}
use Rattle.part.specs.Record.{events, event_kind}
use Rattle.relations.specs.Sets.{seen_at, Concerned, RolesOf}
use Rattle.relations.proofs.Roles.{speaks, concerned-speaks}
use Rattle.partition.proofs.Sorted.{below_next}

-- ---- the numbers below i that pass a test, as a set

abbrev pub Marked : (ℕ → Bool) → ℕ → ℕ → Type 0
Marked test i x = Represents x (λ j. ltb j i && test j)

pub marked_none : (test : ℕ → Bool) → Marked test 0 0
marked_none test j = cc (bit_zero j, le-ltb j 0 (omega arith))

pub marked_more : (test : ℕ → Bool) (i x y : ℕ) (here : Bool) → here ≡ test i → Marked test i x
    → Represents y (λ j. bit x j || eqb i j && here)
    → Marked test (i + 1) y
marked_more test i x y here e before now j = now j ∙ rw (before j, e) (sym (below_next test i j))

pub mark_in : (x i : ℕ) (test : Bool) → test ≡ true → Represents (union x (single i)) (λ j. bit x j || eqb i j && test)
mark_in x i test e j =
    bit-union x (single i) j ∙ rw (bit-single i j, e) (ap (λ (p : Bool). bit x j || p) (sym (and-true _)))

pub mark_out : (x i : ℕ) (test : Bool) → test ≡ false → Represents x (λ j. bit x j || eqb i j && test)
mark_out x i test e j = rw e (sym (ap (λ (p : Bool). bit x j || p) (and-false (eqb i j)) ∙ or-false _))

-- ---- two such sets

both : (p x y : Bool) → ((p && x) && (p && y)) ≡ (p && (x && y))
both true x y = refl
both false x y = refl

first_alone : (p x y : Bool) → ((p && x) && not (p && y)) ≡ (p && (x && not y))
first_alone true x y = refl
first_alone false x y = refl

module _ (f g : ℕ → Bool) (m x y z : ℕ) (left : Marked f m x) (right : Marked g m y) where
  marked_both : z ≡ intersection x y → Marked (λ j. f j && g j) m z
  marked_both e j = rw e (bit-intersection x y j ∙ rw (left j, right j) (both (ltb j m) (f j) (g j)))

  marked_first : z ≡ difference x y → Marked (λ j. f j && not (g j)) m z
  marked_first e j = rw e (bit-difference x y j ∙ rw (left j, right j) (first_alone (ltb j m) (f j) (g j)))

-- ---- the five sets

module _ (b : List ℕ) (l : ℕ) where
  abbrev pub is_input : ℕ → Bool
  is_input i = eqb (event_kind b i) 0

  abbrev pub is_unseen : ℕ → Bool
  is_unseen i = not (seen_at b l i)

  told : (k x : ℕ) → k < 5 → Marked (λ i. speaks k (is_input i) (seen_at b l i)) (events b) x → Concerned b l k x
  told k x h m j = m j ∙ ap (λ (p : Bool). ltb j (events b) && p) (sym (concerned-speaks b l j k h))

  pub roles_all : (inputs seen unseen two three four five : ℕ) → Marked is_input (events b) inputs
      → Marked (seen_at b l) (events b) seen → Marked is_unseen (events b) unseen
      → two ≡ intersection inputs unseen → three ≡ intersection inputs seen
      → four ≡ difference unseen inputs → five ≡ difference seen inputs
      → RolesOf b l (record { inputs = inputs; high_inputs = two; low_inputs = three; silent_events = four; low_outputs = five })
  roles_all inputs seen unseen two three four five i s u e2 e3 e4 e5 = record {
    inputs = told 0 inputs (omega arith) i;
    high_inputs = told 1 two (omega arith) (marked_both is_input is_unseen _ _ _ _ i u e2);
    low_inputs = told 2 three (omega arith) (marked_both is_input (seen_at b l) _ _ _ _ i s e3);
    silent_events = told 3 four (omega arith) (marked_first is_unseen is_input _ _ _ _ u i e4);
    low_outputs = told 4 five (omega arith) (marked_first (seen_at b l) is_input _ _ _ _ s i e5);
  }
