-- The verdict by its parts: from the rejection and from the first violation; and what an accepted record gives to the
-- rules.
use Prim.Native.Nat.{ℕ, ◌<◌}
use mathlib.Core.Path.{◌≡◌, refl, sym, ap, ◌∙◌}
use mathlib.Core.List.{List}
use mathlib.Core.Option.{Option, none, some}
use native.Mathlib.Omega.{arith}
use Rattle.partition.specs.Sets.{Partition}
use Rattle.partition.proofs.Limits.{limit_one}
use Rattle.part.specs.Format.{limited_kind}
use Rattle.part.specs.Record.{kind, columns, observers, observer, column, fine_column}
use Rattle.part.proofs.Fields.{own_column, own_fine_column, own_fine}
use Rattle.screening.specs.Rejections.{rejection, Accepted}
use Rattle.screening.proofs.Numbered.{partition}
use Rattle.screening.proofs.Ranges.{frame, column-length, numbered, fine_inside}
use Rattle.relations.specs.Sets.{Sound}
use Rattle.relations.proofs.Theorems.{rows-within}
use Rattle.std.specs.Prelude.{Ok, Err}
use Rattle.restrictive.specs.declared.answer.Break.{Break}
use Rattle.restrictive.specs.Verdict.{Violation, refused, by_rules, after_rejection, first_violation, verdict}
use Rattle.restrictive.specs.Verdict.{taken_by, taken, limit, limit_by, told_limit}
use Rattle.restrictive.specs.Answers.{failure_of, verdict_of, taken_of, limit_of, Reports}
use Rattle.restrictive.specs.declared.answer.Failure.TheVariants.{Refused, Breaks}
use Rattle.screening.specs.declared.answer.Rejection.{Rejection}
use Rattle.screening.specs.Answers.{number_of}
use Rattle.restrictive.specs.Found.{finding_of, taken_up, taken_at, FindingIn}

pub refused-verdict : (b : List ℕ) (k : ℕ) → rejection b ≡ some k → verdict b ≡ refused k
unfolding verdict after_rejection
refused-verdict b k e = ap (λ (o : Option ℕ). after_rejection o b) e

pub rules_verdict : (b : List ℕ) (o : Option Violation) → rejection b ≡ none → first_violation b ≡ o
    → verdict b ≡ by_rules o
unfolding verdict after_rejection
rules_verdict b o e f = ap (λ (r : Option ℕ). after_rejection r b) e ∙ ap by_rules f

pub taken_by_rules : (b : List ℕ) (o : Option Violation) → taken_at b (observer b 0) o ≡ taken_by b (by_rules o)
unfolding taken_at by_rules taken_by
taken_by_rules b none = refl
taken_by_rules b (some v) = refl

-- What Check reports then.
pub reports_refused : (b : List ℕ) (r : Rejection) → rejection b ≡ some (number_of r) → Reports b (Err (Refused r))
unfolding taken taken_by told_limit limit_by verdict_of failure_of taken_of limit_of
reports_refused b r e =
    let whole = refused-verdict b _ e in
    record {
      verdict = sym whole;
      taken = sym (ap (taken_by b) whole);
      limit = sym (ap (limit_by b) whole);
    }

pub reports_pass : (b : List ℕ) (k m : ℕ) → rejection b ≡ none → FindingIn b (Ok k) → m ≡ limit b
    → Reports b (Ok (record { taken = k; limit = m }))
unfolding taken told_limit verdict_of taken_of limit_of finding_of taken_up by_rules limit_by
reports_pass b k m e finds q =
    let whole = rules_verdict b _ e (sym finds.found) in
    record {
      verdict = sym whole;
      taken =
          finds.taken ∙ ap (taken_at b (observer b 0)) (sym finds.found) ∙ taken_by_rules b none
          ∙ ap (taken_by b) (sym whole);
      limit = q ∙ ap (limit_by b) (sym whole);
    }

pub reports_break : (b : List ℕ) (f : Break) → rejection b ≡ none → FindingIn b (Err f) → Reports b (Err (Breaks f))
unfolding taken told_limit verdict_of failure_of taken_of limit_of finding_of taken_up by_rules limit_by
reports_break b f e finds =
    let whole = rules_verdict b _ e (sym finds.found) in
    record {
      verdict = sym whole;
      taken =
          finds.taken ∙ ap (taken_at b (observer b 0)) (sym finds.found) ∙ taken_by_rules b _
          ∙ ap (taken_by b) (sym whole);
      limit = sym (ap (limit_by b) whole);
    }

-- What the rules need of an accepted record.
pub column-partition : (b : List ℕ) (a : Accepted b) (j : ℕ) → j < columns b → Partition (column b j)
column-partition b a j l =
    partition _ (numbered b a j l) (omega (arith, column-length b a j l, (frame b a).few.most_states))

pub ready : (b : List ℕ) (o : ℕ) → Accepted b → o < observers b → Sound b (column b o) (fine_column b o)
ready b o a l =
    let own = own_column b o l in
    let fine = own_fine_column b o l in
    record {
      framed = frame b a;
      within = rows-within b a;
      sized = column-length b a o own;
      partition = column-partition b a o own;
      fine_sized = column-length b a _ fine;
      fine_partition = column-partition b a _ fine;
      inside = fine_inside b a o l;
    }

-- The limit of a record that is not a limited part.
pub one_limit : (b : List ℕ) → Accepted b → (kind b ≡ limited_kind → ⊥) → limit b ≡ 1
unfolding limit
one_limit b a n = rw (own_fine b 0 n) (limit_one _ _ (frame b a).one_state)
