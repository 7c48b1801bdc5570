-- What a search inside Check finds: a violation, or none. No promise of Check itself rests on this page.
use Rattle.std.specs.Prelude.{ℕ, ◌≡◌, List, Result, Ok, Err}
use Rattle.std.proofs.Math.Option.{Option, none, some}
use Rattle.part.specs.Record.{Observer, observer}
use Rattle.relations.specs.Relations.{closure_sizes}
use Rattle.restrictive.specs.declared.answer.Violation.{Violation}
use Rattle.restrictive.specs.declared.answer.Break.{Break}
use Rattle.restrictive.specs.Verdict as plain
use Rattle.restrictive.specs.Answers.{violation_of}

unfoldable pub found_of : Result (Unit {0}) Violation → Option plain.Violation
found_of (Ok x) = none
found_of (Err v) = some (violation_of v)

-- What a search finds, and how many states are taken up, when it also counts them.
unfoldable pub finding_of : Result ℕ Break → Option plain.Violation
finding_of (Ok n) = none
finding_of (Err e) = some (violation_of e.violation)

unfoldable pub taken_up : Result ℕ Break → ℕ
taken_up (Ok n) = n
taken_up (Err e) = e.taken

-- How many states are taken up when a search ends so; where it finds nothing, for an observer of this level.
unfoldable pub taken_at : List ℕ → ℕ → Option plain.Violation → ℕ
taken_at b l none = closure_sizes b l
taken_at b l (some v) = plain.taken_by b (plain.breaks v)

-- What a search gives: what it finds, and how many states are taken up then.
pub record Gives (b : List ℕ) (l : ℕ) (o : Option plain.Violation) (r : Result ℕ Break) : Type 0 where
  pub found : finding_of r ≡ o
  pub taken : taken_up r ≡ taken_at b l o

-- The rules for an observer, and for all observers of the record.
abbrev pub FindingFor : List ℕ → Observer → Result ℕ Break → Type 0
FindingFor b o r = Gives b o.level (plain.violation_for b o) r

abbrev pub FindingIn : List ℕ → Result ℕ Break → Type 0
FindingIn b r = Gives b (observer b 0) (plain.first_violation b) r
