-- The tests of roles are what the rules ask; and which rules speak of an event, by whether it is an input and whether
-- the observer sees it.
use Prim.Native.Nat.{ℕ, zero, suc, ◌<◌}
use mathlib.Core.Path.{◌≡◌, refl, sym, ap, ◌∙◌}
use mathlib.Core.Bool.{Bool, true, false, not, beq, ◌&&◌}
use mathlib.Core.List.{List}
use mathlib.Core.Logic.Iff
use mathlib.Core.Logic.{◌↔◌, ◌⊎◌, inl, inr}
use lib.Dec.{T, eqb, eqb-suc-zero}
use Rattle.bounded.specs.Search.{all}
use Rattle.bounded.proofs.Search.{all_at}
use Rattle.bounded.proofs.Truth.{eqb_iff, or_iff}
use Rattle.machine.specs.Machine.{Kind, input, output, internal}
use Rattle.machine.specs.Roles.{Role, missing, low_input, high_input, low_output, silent, at_level, role_of, IsInput}
use Rattle.machine.specs.Rules.{Rule, rule_1, rule_2, rule_3, rule_4, rule_5}
use Rattle.level.specs.Level.{low}
use Rattle.part.specs.Record.{event_kind, level}
use Rattle.part.specs.Events.{kind_of}
use denote.Enum.Bare.{sameb}
use Rattle.part.specs.contracts.format.EventKind as event-kind
use Rattle.part.specs.declared.format.EventKind.{EventKind}
use Rattle.part.specs.declared.format.EventKind.TheVariants.{Input, Output, Internal}
use Rattle.part.specs.Kinds.{machine_kind}
use Rattle.relations.specs.Sets.{is_seen, seen_at}
use Rattle.relations.specs.Relations.{role_at, role_number, is_role, concerns, rule_at}

-- ---- tests of roles

-- A role from its number.
numbered : ℕ → Role
numbered zero = missing
numbered (suc zero) = low_input
numbered (suc (suc zero)) = high_input
numbered (suc (suc (suc zero))) = low_output
numbered (suc (suc (suc (suc k)))) = silent

numbered-role : (r : Role) → numbered (role_number r) ≡ r
unfolding numbered
numbered-role missing = refl
numbered-role low_input = refl
numbered-role high_input = refl
numbered-role low_output = refl
numbered-role silent = refl

pub is_role_iff : (x r : Role) → T (is_role x r) ↔ (r ≡ x)
is_role_iff x r =
    Iff.trans (eqb_iff (role_number r) (role_number x))
    (λ q. sym (numbered-role r) ∙ ap numbered q ∙ numbered-role x, ap role_number)

-- Of what role a rule speaks, as machine's rules ask it.
abbrev pub Concerns : Rule → Role → Type 0
Concerns rule_1 r = IsInput r
Concerns rule_2 r = r ≡ high_input
Concerns rule_3 r = r ≡ low_input
Concerns rule_4 r = r ≡ silent
Concerns rule_5 r = r ≡ low_output

pub concerns_iff : (q : Rule) (r : Role) → T (concerns q r) ↔ Concerns q r
concerns_iff rule_1 r = or_iff (is_role low_input r) (is_role high_input r) (is_role_iff _ r) (is_role_iff _ r)
concerns_iff rule_2 r = is_role_iff _ r
concerns_iff rule_3 r = is_role_iff _ r
concerns_iff rule_4 r = is_role_iff _ r
concerns_iff rule_5 r = is_role_iff _ r

-- ---- the sets that the code makes

-- Rule k + 1 speaks of an input, or another event, that is seen or not.
abbrev pub speaks : ℕ → Bool → Bool → Bool
speaks zero is_input is_seen = is_input
speaks (suc zero) is_input is_seen = is_input && not is_seen
speaks (suc (suc zero)) is_input is_seen = is_input && is_seen
speaks (suc (suc (suc zero))) is_input is_seen = not is_seen && not is_input
speaks (suc (suc (suc (suc k)))) is_input is_seen = is_seen && not is_input

abbrev right : Role → ℕ → Bool
right r k = beq (concerns (rule_at k) r) (speaks k (concerns rule_1 r) (is_seen r))

all_right : (kind : Kind) (l : Bool) → all 5 (right (at_level kind l)) ≡ true
unfolding all rule_at at_level
all_right input true = refl
all_right input false = refl
all_right output true = refl
all_right output false = refl
all_right internal true = refl
all_right internal false = refl

beq_eq : (p q : Bool) → beq p q ≡ true → p ≡ q
beq_eq true true e = refl
beq_eq true false e = sym e
beq_eq false true e = e
beq_eq false false e = refl

-- An input is known by its kind alone; of another kind an event is seen at a low level or, as an internal one, never.
kind-input : (k : ℕ) (l : Bool) → concerns rule_1 (at_level (kind_of k) l) ≡ eqb k 0
unfolding kind_of at_level
kind-input zero true = refl
kind-input zero false = refl
kind-input (suc zero) true = refl
kind-input (suc zero) false = refl
kind-input (suc (suc k)) l = sym (eqb-suc-zero (suc k))

-- The test of the code for an input.
abbrev input_test : Kind → Bool
input_test input = true
input_test output = false
input_test internal = false

input_told : (k : EventKind) → sameb event-kind.the_type k Input ≡ input_test (machine_kind k)
input_told Input = refl
input_told Output = refl
input_told Internal = refl

input_of : (k : ℕ) → input_test (kind_of k) ≡ eqb k 0
unfolding kind_of
input_of zero = refl
input_of (suc zero) = refl
input_of (suc (suc k)) = sym (eqb-suc-zero (suc k))

pub is_input_kind : (k : EventKind) (n : ℕ) → machine_kind k ≡ kind_of n → sameb event-kind.the_type k Input ≡ eqb n 0
is_input_kind k n e = input_told k ∙ ap input_test e ∙ input_of n

input_seen : (l : Bool) → is_seen (at_level input l) ≡ l
unfolding at_level
input_seen true = refl
input_seen false = refl

output_seen : (l : Bool) → is_seen (at_level output l) ≡ l
unfolding at_level
output_seen true = refl
output_seen false = refl

module _ (b : List ℕ) (l i : ℕ) where
  seen_as : (k : Kind) → k ≡ kind_of (event_kind b i) → seen_at b l i ≡ is_seen (at_level k (low l (level b i)))
  unfolding role_at role_of
  seen_as k e = ap (λ (k : Kind). is_seen (at_level k (low l (level b i)))) (sym e)

  pub internal-unseen : internal ≡ kind_of (event_kind b i) → seen_at b l i ≡ false
  unfolding at_level
  internal-unseen e = seen_as internal e

  pub seen_by_level : (k : EventKind) → machine_kind k ≡ kind_of (event_kind b i) → (k ≡ Input) ⊎ (k ≡ Output)
      → seen_at b l i ≡ low l (level b i)
  seen_by_level k e (inl q) = seen_as input (ap machine_kind (sym q) ∙ e) ∙ input_seen _
  seen_by_level k e (inr q) = seen_as output (ap machine_kind (sym q) ∙ e) ∙ output_seen _

pub concerned-speaks : (b : List ℕ) (l i k : ℕ) → k < 5
    → concerns (rule_at k) (role_at b l i) ≡ speaks k (eqb (event_kind b i) 0) (seen_at b l i)
unfolding role_at role_of
concerned-speaks b l i k h =
    beq_eq _ _ (all_at _ 5 (all_right (kind_of (event_kind b i)) (low l (level b i))) k h)
    ∙ rw (kind-input (event_kind b i) (low l (level b i)))
