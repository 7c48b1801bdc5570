-- Which answer Join gives, case by case.
use Prim.Native.Nat.{ℕ, ◌≤◌, ◌<◌}
use mathlib.Core.Path.{◌≡◌, refl}
use mathlib.Core.List.{List}
use mathlib.Core.Option.{none, some}
use borrow.Author.Tests.{lt-ltb, le-ltb}
use lib.ListN.{length}
use Rattle.screening.specs.Rejections.{Accepted}
use Rattle.restrictive.specs.Verdict.{Violation, Verdict, pass, refused, breaks, verdict}
use Rattle.screening.specs.Answers.{number_of}
use Rattle.restrictive.specs.declared.answer.Failure.{Failure}
use Rattle.restrictive.specs.declared.answer.Failure.TheVariants.{Refused, Breaks}
use Rattle.restrictive.specs.Answers.{violation_of, failure_of}
use Rattle.restrictive.proofs.Theorems.{passes-exactly}
use Rattle.std.specs.Prelude.{Err}
use Rattle.composite.specs.declared.answer.Unjoined.{Unjoined}
use Rattle.composite.specs.declared.answer.Unjoined.TheVariants.{Unfit, Stopped, NoRoom}
use Rattle.composite.specs.Answers.{joining_of}
use Rattle.composite.specs.Joined.{joined}
use Rattle.composite.specs.Joining.{Obstacle, refusal, obstacle, Side, Joining, length_is, unfit, stopped, unless_unfit, into, unless_stopped, joining, buffer_after}
use Rattle.join.specs.Pieces.{Joint}
use Rattle.composite.proofs.Joinable.{joins-exactly}

-- A verdict that is not a pass.
pub data Fails : Verdict → Type 0 where
  refuses : (k : ℕ) → Fails (refused k)
  breaking : (v : Violation) → Fails (breaks v)

-- So is each that the code names.
pub fails_of : (f : Failure) → Fails (failure_of f)
unfolding failure_of
fails_of (Refused r) = refuses (number_of r)
fails_of (Breaks e) = breaking (violation_of e.violation)

pub fails_answer : (side : Side) {v : Verdict} (next : Joining) → Fails v → unless_unfit side v next ≡ unfit side v
unfolding unless_unfit
fails_answer side next (refuses k) = refl
fails_answer side next (breaking v) = refl

-- A refused call leaves the buffer.
pub stays : (e : Unjoined) (bytes out : List ℕ) → buffer_after (joining_of (Err e)) bytes out ≡ out
unfolding joining_of buffer_after
stays (Unfit side f) bytes out = refl
stays (Stopped o) bytes out = refl
stays NoRoom bytes out = refl

pub passing-accepted : (b : List ℕ) → verdict b ≡ pass → Accepted b
passing-accepted b p = ((passes-exactly b).0 p).0

module _ (a b : List ℕ) where
  pub joint : verdict a ≡ pass → verdict b ≡ pass → obstacle a b ≡ none → Joint a b
  joint p q n =
      let first = passing-accepted a p in
      let second = passing-accepted b q in
      record { first = first; second = second; joins = (joins-exactly a b first second).0 n }

module _ (a b : List ℕ) (room : ℕ) where
  pub obstructed : {o : Obstacle} → verdict a ≡ pass → verdict b ≡ pass → obstacle a b ≡ some o
      → joining a b room ≡ stopped o
  unfolding joining unless_unfit unless_stopped
  obstructed p q e = rw (p, q, e)

  pub roomless : verdict a ≡ pass → verdict b ≡ pass → obstacle a b ≡ none → room < length (joined a b)
      → joining a b room ≡ stopped (refusal 15)
  unfolding joining unless_unfit unless_stopped into
  roomless p q n h = rw (p, q, n, lt-ltb room (length (joined a b)) h)

  pub roomy : verdict a ≡ pass → verdict b ≡ pass → obstacle a b ≡ none → length (joined a b) ≤ room
      → joining a b room ≡ length_is (length (joined a b))
  unfolding joining unless_unfit unless_stopped into
  roomy p q n h = rw (p, q, n, le-ltb room (length (joined a b)) h)
