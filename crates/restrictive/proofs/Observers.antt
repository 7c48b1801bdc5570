-- The observers of a record, searched one after the other.
use Prim.Native.Nat.{ℕ, ◌+◌, ◌<◌}
use mathlib.Core.Path.{◌≡◌, sym, ap, ◌∙◌}
use mathlib.Core.List.{List}
use mathlib.Core.Option.{Option, none}
use Rattle.std.specs.Prelude.{Ok, Err}
use Rattle.bounded.specs.Search.{first}
use Rattle.bounded.proofs.Search.{first_more, first_hit}
use Rattle.part.specs.Record.{observers, observer, observer_of}
use Rattle.restrictive.specs.declared.answer.Break.{Break}
use Rattle.restrictive.specs.Answers.{violation_of}
use Rattle.restrictive.specs.Verdict.{Violation, violation_for, first_violation}
use Rattle.restrictive.specs.Found.{finding_of, taken_up, taken_at, FindingFor, FindingIn}

module _ (b : List ℕ) where
  abbrev pub for_each : ℕ → Option Violation
  for_each o = violation_for b (observer_of b o)

  module _ (o : ℕ) (before : first o for_each ≡ none) where
    -- The search ends at what it finds for o ..
    pub search_ends : (e : Break) → FindingFor b (observer_of b o) (Err e) → o < observers b → FindingIn b (Err e)
    unfolding first_violation finding_of taken_up taken_at
    search_ends e f l = record {
      found = sym (first_hit for_each _ o (violation_of e.violation) l before (sym f.found));
      taken =
          f.taken ∙ ap (taken_at b (observer b o)) (sym f.found)
          ∙ ap (taken_at b (observer b 0)) (sym (first_hit for_each _ o (violation_of e.violation) l before (sym f.found)));
    }

    -- .. or goes on.
    pub search_goes_on : (k : ℕ) → FindingFor b (observer_of b o) (Ok k) → first (o + 1) for_each ≡ none
    unfolding finding_of
    search_goes_on k f = first_more for_each o before (sym f.found)

  -- Nothing is found for any; the states taken up are those for the first.
  pub search_done : (k o : ℕ) → FindingFor b (observer_of b 0) (Ok k) → o ≡ observers b → first o for_each ≡ none
      → FindingIn b (Ok k)
  unfolding first_violation finding_of taken_up
  search_done k o f e clear =
      let none_there : first_violation b ≡ none = ap (λ (n : ℕ). first n for_each) (sym e) ∙ clear in
      record {
        found = sym none_there;
        taken = f.taken ∙ ap (taken_at b (observer b 0)) (sym f.found ∙ sym none_there);
      }
