-- How many states are taken up, by the rule at which the search ends.
use Prim.Native.Nat.{ℕ, suc, ◌≤◌, ◌<◌}
use mathlib.Core.Path.{◌≡◌, refl, sym, ap, ◌∙◌}
use mathlib.Core.Bool.{or-true}
use mathlib.Core.List.{List}
use mathlib.Core.Option.{Option, none, some}
use mathlib.Core.Logic.{◌⊎◌, inl, inr, ⊎_elim}
use native.Mathlib.Decide.{dec_lt, ℕ_discrete}
use native.Mathlib.Omega.{arith}
use borrow.Author.Tests.{eq-eqb, ne_eqb}
use lib.Dec.{eqb}
use Rattle.bounded.specs.Search.{first}
use Rattle.bounded.proofs.Search.{first_found, first-none, when_some}
use Rattle.part.specs.Record.{Observer}
use Rattle.relations.specs.Relations.{closure_sizes}
use Rattle.restrictive.specs.declared.answer.Violation as code
use Rattle.restrictive.specs.declared.answer.Break.{Break}
use Rattle.std.specs.Prelude.{Result, Ok, Err}
use Rattle.restrictive.specs.Verdict.{Violation, violation_at, state_violation, event_violation, rule_violation}
use Rattle.restrictive.specs.Verdict.{breaks, violation_for, taken_by}
use Rattle.restrictive.specs.Answers.{violation_of}
use Rattle.restrictive.specs.Found.{found_of, finding_of, taken_up, taken_at, FindingFor}
use Rattle.restrictive.proofs.Scans.{found_first}

-- A break of rule 4 or 5, and of another rule.
module _ (b : List ℕ) (v : Violation) where
  pub taken-all : (v.rule ≡ 4) ⊎ (v.rule ≡ 5) → taken_by b (breaks v) ≡ closure_sizes b v.level
  unfolding taken_by
  taken-all (inl e) = rw (eq-eqb v.rule 4 e)
  taken-all (inr e) = rw (eq-eqb v.rule 5 e, or-true (eqb v.rule 4))

  pub taken_none : ((v.rule ≡ 4) ⊎ (v.rule ≡ 5) → ⊥) → taken_by b (breaks v) ≡ 0
  unfolding taken_by
  taken_none other = rw (ne_eqb v.rule 4 (λ e. other (inl e)), ne_eqb v.rule 5 (λ e. other (inr e)))

module _ (b : List ℕ) (o : Observer) where
  -- A violation of rule k + 1 has its number, and the observer's level.
  rule_of : (k : ℕ) (v : Violation) → rule_violation b o k ≡ some v → (v.rule ≡ suc k) × (v.level ≡ o.level)
  unfolding rule_violation event_violation state_violation violation_at
  rule_of k v e =
      let at-event = first_found _ _ v e in
      let at-state = first_found _ _ v at-event.found in
      let at_Target = first_found _ _ v at-state.found in
      let at-answer = first_found _ _ v at_Target.found in
      let named = sym (when_some _ _ v at-answer.found).1 in
      (ap (λ (w : Violation). w.rule) named, ap (λ (w : Violation). w.level) named)

  -- After rules 1 to 3 the closures are taken up.
  taken_late : first 3 (rule_violation b o) ≡ none
      → taken_at b o.level (violation_for b o) ≡ closure_sizes b o.level
  unfolding violation_for taken_at
  taken_late before = go (first 5 (rule_violation b o)) refl
    where
      go : (f : Option Violation) → first 5 (rule_violation b o) ≡ f
          → taken_at b o.level f ≡ closure_sizes b o.level
      go none e = refl
      go (some v) e =
          let found = first_found (rule_violation b o) 5 v e in
          let late : 3 ≤ found.at = elim (dec_lt found.at 3) [
            | yes l ↦ absurd (clash (sym (first-none _ 3 before found.at l) ∙ found.found))
            | no l ↦ omega arith
          ] in
          let (rule, level) = rule_of found.at v found.found in
          taken-all b v (elim (ℕ_discrete found.at 3) [
            | yes q ↦ inl (omega arith)
            | no q ↦ inr (omega (arith, found.below))
          ])
          ∙ ap (closure_sizes b) level
        where
          clash : {w : Violation} → none ≡ some w → ⊥
          clash e = let z : ◌≡◌ {A = ℕ} 0 1 = cc in omega arith

  pub finds_late : (f : Result (Unit {0}) code.Violation) (r : Result ℕ Break) (k : ℕ) → first 3 (rule_violation b o) ≡ none
      → found_of f ≡ violation_for b o → finding_of r ≡ found_of f → taken_up r ≡ k
      → k ≡ closure_sizes b o.level → FindingFor b o r
  finds_late f r k before e same size total = record { found = same ∙ e; taken = size ∙ total ∙ sym (taken_late before) }

  -- A violation of one of these rules ends the search before.
  pub finds_early : (k : ℕ) {v : code.Violation} → k < 3 → found_of (Err v) ≡ rule_violation b o k
      → first k (rule_violation b o) ≡ none → FindingFor b o (Err (record { violation = v; taken = 0 }))
  unfolding violation_for found_of finding_of taken_up taken_at
  finds_early k {v} h seen before =
      let whole = found_first (rule_violation b o) k (Err v) seen before 5 v refl (omega arith) in
      let rule = (rule_of k (violation_of v) (sym seen)).0 in
      record {
        found = whole;
        taken =
            sym (ap (taken_at b o.level) (sym whole)
            ∙ taken_none b (violation_of v) (⊎_elim (λ q. omega arith) (λ q. omega arith)));
      }

  -- Nothing is found.
  pub finds_none : {k : ℕ} → violation_for b o ≡ none → k ≡ closure_sizes b o.level → FindingFor b o (Ok k)
  unfolding finding_of taken_up taken_at
  finds_none e size = record { found = sym e; taken = size ∙ ap (taken_at b o.level) (sym e) }
