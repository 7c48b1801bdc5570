-- What it is for a record to be accepted: the conditions one by one, by name, and the first that holds. Other files use
-- these names, and never a condition's place in the list.
use Prim.Native.Nat.{ℕ}
use mathlib.Core.Path.{◌≡◌, refl, sym, ◌∙◌}
use mathlib.Core.Bool.{true, false}
use mathlib.Core.List.{List, [], ◌∷◌, ◌++◌}
use mathlib.Core.Option.{none, some}
use mathlib.Core.Logic.{◌↔◌, ⊎_elim}
use native.Mathlib.Omega.{arith}
use Rattle.bounded.specs.Search.{or_else}
use Rattle.bounded.proofs.Search.{true_or_false}
use Rattle.screening.specs.Rejections.{too_short, wrong_length, wrong_kind, out_of_range, wrong_size, mislisted, misnumbered}
use Rattle.screening.specs.Rejections.{misrefined, misordered, mislabelled_part, stray_bit, Condition, frame_conditions}
use Rattle.screening.specs.Rejections.{content_conditions, first_of, rejection, NoneOf, Accepted}

-- ---- the first condition that holds

module _ (c : Condition) (cs : List Condition) (b : List ℕ) where
  pub skip : c.holds b ≡ false → first_of (c ∷ cs) b ≡ first_of cs b
  unfolding first_of
  skip e = rw e

  pub hit : c.holds b ≡ true → first_of (c ∷ cs) b ≡ some c.number
  unfolding first_of
  hit e = rw e

pub none-holds : (cs : List Condition) (b : List ℕ) → first_of cs b ≡ none → NoneOf cs b
none-holds [] b e = tt
none-holds (c ∷ cs) b e =
    ⊎_elim
    (λ t. absurd (let h = hit c cs b t in let z : ◌≡◌ {A = ℕ} 0 1 = cc in omega arith))
    (λ f. (f, none-holds _ b (sym (skip c _ b f) ∙ e)))
    (true_or_false _)

pub none_first : (cs : List Condition) (b : List ℕ) → NoneOf cs b → first_of cs b ≡ none
unfolding first_of
none_first [] b a = refl
none_first (c ∷ cs) b a = skip c cs b a.0 ∙ none_first cs b a.1

pub rejection-none : (b : List ℕ) → (rejection b ≡ none) ↔ Accepted b
unfolding rejection
rejection-none b = (none-holds _ b, none_first _ b)

-- ---- two lists one behind the other

pub first-append : (cs ds : List Condition) (b : List ℕ)
    → first_of (cs ++ ds) b ≡ or_else (first_of cs b) (first_of ds b)
unfolding first_of or_else
first-append [] ds b = refl
first-append (c ∷ cs) ds b =
    ⊎_elim
    (λ (t : c.holds b ≡ true). rw t refl)
    (λ (f : c.holds b ≡ false). rw f (first-append cs ds b))
    (true_or_false _)

pub frame_first : (b : List ℕ) (k : ℕ) → first_of frame_conditions b ≡ some k → rejection b ≡ some k
unfolding rejection or_else
frame_first b k e = first-append frame_conditions content_conditions b ∙ rw e refl

pub content_next : (b : List ℕ) → first_of frame_conditions b ≡ none → rejection b ≡ first_of content_conditions b
unfolding rejection or_else
content_next b e = first-append frame_conditions content_conditions b ∙ rw e refl

none-append : (cs ds : List Condition) (b : List ℕ) → NoneOf (cs ++ ds) b → NoneOf cs b
none-append [] ds b a = tt
none-append (c ∷ cs) ds b a = (a.0, none-append cs ds b a.1)

pub none_both : (cs ds : List Condition) (b : List ℕ) → NoneOf cs b → NoneOf ds b → NoneOf (cs ++ ds) b
none_both [] ds b a c = c
none_both (d ∷ cs) ds b a c = (a.0, none_both cs ds b a.1 c)

-- ---- the conditions by name

pub in_frame : (b : List ℕ) → Accepted b → NoneOf frame_conditions b
in_frame b a = none-append frame_conditions content_conditions b a

module _ (b : List ℕ) (a : NoneOf frame_conditions b) where
  pub not-too_short : too_short b ≡ false
  not-too_short = search

  pub not-wrong_length : wrong_length b ≡ false
  not-wrong_length = search

  pub not-wrong_kind : wrong_kind b ≡ false
  not-wrong_kind = search

  pub not-out_of_range : out_of_range b ≡ false
  not-out_of_range = search

  pub not-wrong_size : wrong_size b ≡ false
  not-wrong_size = search

  pub not-mislisted : mislisted b ≡ false
  not-mislisted = search

module _ (b : List ℕ) (a : Accepted b) where
  pub not-misnumbered : misnumbered b ≡ false
  not-misnumbered = search

  pub not-misrefined : misrefined b ≡ false
  not-misrefined = search

  pub not-misordered : misordered b ≡ false
  not-misordered = search

  pub not-mislabelled : mislabelled_part b ≡ false
  not-mislabelled = search

  pub not-stray : stray_bit b ≡ false
  not-stray = search
