-- The kinds by their numbers.
use Prim.Native.Nat.{ℕ, zero, suc}
use mathlib.Core.Path.{◌≡◌, refl, sym, ap, ◌∙◌, subst}
use mathlib.Core.Bool.{Bool, true, false, not, cond, ◌||◌}
use native.Mathlib.Decide.{ℕ_discrete}
use lib.Dec.{eqb}
use borrow.Author.Tests.{ne_eqb, eqb-true}
use Rattle.std.specs.Prelude.{Option, Some, None, Result, Ok, Err, is_some, is_err}
use Rattle.std.specs.Result.{result_ok}
use Rattle.std.specs.Option.{option_eq}
use Rattle.part.specs.contracts.format.KindPartialEq.TheImpl.{eq-value}
use Rattle.bounded.proofs.Search.{true_not_false}
use Rattle.machine.specs.Machine.{internal}
use Rattle.part.specs.declared.format.Kind.{Kind}
use Rattle.part.specs.declared.format.UnknownKind.{UnknownKind}
use Rattle.part.specs.declared.format.Kind.TheVariants.{Single, Several, Limited}
use Rattle.part.specs.Format.{single_kind, several_kind, limited_kind}
use Rattle.part.specs.Kinds.{kind_with, kind_number, ReadsKind}
use Rattle.part.specs.Events.{kind_of}

-- ---- of a record

-- A number that stands for a kind is that kind's.
pub number-back : (k : ℕ) (kind : Kind) → kind_with k ≡ Some kind → k ≡ kind_number kind
unfolding kind_with
number-back k kind e =
    go (eqb k single_kind) (eqb k several_kind) (eqb k limited_kind) (eqb-true k single_kind) (eqb-true k several_kind) (eqb-true k limited_kind) e
  where
    number_or : Option Kind → ℕ
    number_or None = 0
    number_or (Some kind) = kind_number kind

    go : (a b c : Bool) → (a ≡ true → k ≡ single_kind) → (b ≡ true → k ≡ several_kind) → (c ≡ true → k ≡ limited_kind)
        → cond a (Some Single) (cond b (Some Several) (cond c (Some Limited) None)) ≡ Some kind
        → k ≡ kind_number kind
    go true b c p q r e = p refl ∙ ap number_or e
    go false true c p q r e = q refl ∙ ap number_or e
    go false false true p q r e = r refl ∙ ap number_or e
    go false false false p q r e = absurd (true_not_false refl (sym (ap is_some e)))

-- The number of a kind stands for it.
pub number_stands : (kind : Kind) → kind_with (kind_number kind) ≡ Some kind
unfolding kind_with
number_stands Single = refl
number_stands Several = refl
number_stands Limited = refl

-- The kind that is read of a number, if any, is the one that it stands for.
pub kind_read : (k : ℕ) (r : Result Kind UnknownKind) → ReadsKind k r → result_ok r ≡ kind_with k
kind_read k (Ok kind) e = sym e
kind_read k (Err _) e = sym e

pub err_unless_ok : (r : Result Kind UnknownKind) → is_err r ≡ not (is_some (result_ok r))
err_unless_ok (Ok _) = refl
err_unless_ok (Err _) = refl

-- It stands for one, or it is none of the three.
pub known : (k : ℕ) → is_some (kind_with k) ≡ (eqb k single_kind || eqb k several_kind || eqb k limited_kind)
unfolding kind_with
known k = go (eqb k single_kind) (eqb k several_kind) (eqb k limited_kind)
  where
    go : (a b c : Bool) → is_some (cond a (Some Single) (cond b (Some Several) (cond c (Some Limited) None))) ≡ (a || b || c)
    go true b c = refl
    go false true c = refl
    go false false true = refl
    go false false false = refl

-- What `==` answers of two kinds.
pub same_number : (x y : Kind) → eq-value.it x y ≡ eqb (kind_number x) (kind_number y)
same_number Single Single = refl
same_number Single Several = refl
same_number Single Limited = refl
same_number Several Single = refl
same_number Several Several = refl
same_number Several Limited = refl
same_number Limited Single = refl
same_number Limited Several = refl
same_number Limited Limited = refl

-- What `==` and `!=` answer of the kind that a number stands for and of a kind.
abbrev pub same_kind : Option Kind → Option Kind → Bool
same_kind = option_eq eq-value.it

kind_same : (k : ℕ) (kind : Kind) → same_kind (kind_with k) (Some kind) ≡ eqb k (kind_number kind)
unfolding kind_with
kind_same k kind =
    elim (ℕ_discrete k single_kind) [
      | yes q ↦ subst Same (sym q) (single kind)
      | no n ↦ elim (ℕ_discrete k several_kind) [
        | yes q ↦ subst Same (sym q) (several kind)
        | no m ↦ elim (ℕ_discrete k limited_kind) [
          | yes q ↦ subst Same (sym q) (limited kind)
          | no l ↦ rw (ne_eqb k single_kind n, ne_eqb k several_kind m, ne_eqb k limited_kind l) (other kind n m l)
        ]
      ]
    ]
  where
    Same : ℕ → Type 0
    Same k = same_kind (kind_with k) (Some kind) ≡ eqb k (kind_number kind)

    single : (kind : Kind) → same_kind (Some Single) (Some kind) ≡ eqb single_kind (kind_number kind)
    single Single = refl
    single Several = refl
    single Limited = refl

    several : (kind : Kind) → same_kind (Some Several) (Some kind) ≡ eqb several_kind (kind_number kind)
    several Single = refl
    several Several = refl
    several Limited = refl

    limited : (kind : Kind) → same_kind (Some Limited) (Some kind) ≡ eqb limited_kind (kind_number kind)
    limited Single = refl
    limited Several = refl
    limited Limited = refl

    other : (kind : Kind) → (k ≡ single_kind → ⊥) → (k ≡ several_kind → ⊥) → (k ≡ limited_kind → ⊥)
        → false ≡ eqb k (kind_number kind)
    other Single n m l = sym (ne_eqb k single_kind n)
    other Several n m l = sym (ne_eqb k several_kind m)
    other Limited n m l = sym (ne_eqb k limited_kind l)

module _ (k : ℕ) (kind : Kind) (found : Option Kind) (e : found ≡ kind_with k) where
  pub kind_equals : (eq : Bool) → eq ≡ same_kind found (Some kind) → eq ≡ eqb k (kind_number kind)
  kind_equals eq d = d ∙ ap (λ o. same_kind o (Some kind)) e ∙ kind_same k kind

  pub kind_differs : (ne : Bool) → ne ≡ not (same_kind found (Some kind)) → ne ≡ not (eqb k (kind_number kind))
  kind_differs ne d = d ∙ ap not (kind_equals (same_kind found (Some kind)) refl)

-- ---- of an event

-- A kind byte that is neither 0 nor 1.
pub kind-internal : (k : ℕ) → (k ≡ 0 → ⊥) → (k ≡ 1 → ⊥) → kind_of k ≡ internal
unfolding kind_of
kind-internal zero n m = absurd (n refl)
kind-internal (suc zero) n m = absurd (m refl)
kind-internal (suc (suc k)) n m = refl
