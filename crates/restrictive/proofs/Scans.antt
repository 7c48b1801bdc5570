-- Loops that look for the first violation, one place after another.
use Prim.Native.Nat.{ℕ, ◌+◌, ◌<◌}
use mathlib.Core.Path.{◌≡◌, refl, sym, ap, ◌∙◌}
use mathlib.Core.Option.{Option, none, some}
use native.Mathlib.Numerals.{add-one}
use Rattle.bounded.specs.Search.{first, or_else}
use Rattle.bounded.proofs.Search.{first_hit, first_more}
use Rattle.restrictive.specs.declared.answer.Violation.{Violation}
use Rattle.std.specs.Prelude.{Result, Ok, Err}
use Rattle.restrictive.specs.Verdict as plain
use Rattle.restrictive.specs.Answers.{violation_of}
use Rattle.restrictive.specs.Found.{found_of}

-- It returns what it finds at i, or goes on.
module _ (f : ℕ → Option plain.Violation) (i : ℕ) (r : Result (Unit {0}) Violation) (seen : found_of r ≡ f i) (before : first i f ≡ none)
  where
    pub found_first : (n : ℕ) (v : Violation) → r ≡ Err v → i < n → found_of r ≡ first n f
    unfolding found_of
    found_first n v e h = ap found_of e ∙ sym (first_hit f n i (violation_of v) h before (sym seen ∙ ap found_of e))

    pub nothing-more : r ≡ Ok tt → first (i + 1) f ≡ none
    unfolding found_of
    nothing-more e = first_more f i before (sym seen ∙ ap found_of e)

    -- the last place of the search
    pub found-last : found_of r ≡ first (i + 1) f
    unfolding first or_else
    found-last = rw (add-one i) (rw before seen)

-- The first of them, said of what is found.
pub first_now : {A : Type 0} (f : ℕ → Option A) (n i : ℕ) (a : A) → i < n → first i f ≡ none → some a ≡ f i → some a ≡ first n f
first_now f n i a h before e = sym (first_hit f n i a h before (sym e))

pub first_past : {A : Type 0} (f : ℕ → Option A) (i : ℕ) → first i f ≡ none → none ≡ f i → first (i + 1) f ≡ none
first_past f i before e = first_more f i before (sym e)

pub first_start : {A : Type 0} (f : ℕ → Option A) → first 0 f ≡ none
unfolding first
first_start f = refl

pub ruleset scans = (first_start, first_now, first_past)
