-- What Clear and Load leave, case by case.
use Prim.Native.Nat.{ℕ, ◌+◌, ◌≤◌, ◌<◌}
use mathlib.Core.Path.{◌≡◌}
use mathlib.Core.List.{List, ◌++◌, flatten}
use mathlib.Core.Option.{none, some}
use native.Mathlib.Omega.{arith}
use lib.ListN.{length}
use borrow.Author.Tests.{lt-ltb, le-ltb}
use Rattle.words.specs.Laid.{over, Laid}
use Rattle.words.proofs.LaidLaws.{over-append}
use Rattle.restrictive.specs.Verdict as check
use Rattle.restrictive.specs.Verdict.{Violation, pass, verdict}
use Rattle.restrictive.specs.declared.answer.Failure.{Failure}
use Rattle.restrictive.specs.declared.answer.Failure.TheVariants.{Refused, Breaks}
use Rattle.restrictive.specs.Answers.{failure_of}
use Rattle.store.specs.Answers.{failure_answer}
use Rattle.store.specs.Answer.{gives, refused, breaks}
use Rattle.store.specs.Walk.{walk, records}
use Rattle.store.specs.Found.{Ends}
use Rattle.store.specs.Calls.{end_bytes, unchanged, clear, append, load}

-- ---- Clear

pub clear_short : (s : List ℕ) → length s < 6 → clear s ≡ unchanged s (refused 12)
unfolding clear
clear_short s h = rw (lt-ltb _ _ h)

pub clear_whole : (s : List ℕ) → 6 ≤ length s → clear s ≡ record { answer = gives 0; shelf = over s 0 end_bytes }
unfolding clear
clear_whole s h = rw (le-ltb _ _ h)

-- ---- an append

pub append_full : (s : List ℕ) (rs : List (List ℕ)) (r : List ℕ) → length s < length (flatten rs) + length r + 6
    → append s rs r ≡ unchanged s (refused 15)
unfolding append
append_full s rs r h = rw (lt-ltb _ _ h)

pub append-room : (s : List ℕ) (rs : List (List ℕ)) (r : List ℕ) → length (flatten rs) + length r + 6 ≤ length s
    → append s rs r ≡ record { answer = gives (length rs); shelf = over s (length (flatten rs)) (r ++ end_bytes) }
unfolding append
append-room s rs r h = rw (le-ltb _ _ h)

-- The record is laid at the place of the end record, and the end record behind it.
pub append_laid : (s r t : List ℕ) (n at next : ℕ) → Ends s n at → at + length r + 6 ≤ length s → Laid s at r t next
    → append s (records s) r ≡ record { answer = gives n; shelf = over t next end_bytes }
append_laid s r t n at next w h l =
    let place = w.place in
    let many = w.many in
    let text = l.text in
    let behind = l.behind in
    let both = over-append s at r end_bytes in
    let room = append-room s (records s) r (omega arith) in
    cc

-- ---- Load

pub load-endless : (s r : List ℕ) → walk s ≡ none → load s r ≡ unchanged s (refused 12)
unfolding load
load-endless s r e = rw (e, load)

module _ (s r : List ℕ) (rs : List (List ℕ)) (e : walk s ≡ some rs) where
  pub load-refused : (k : ℕ) → verdict r ≡ check.refused k → load s r ≡ unchanged s (refused k)
  unfolding load
  load-refused k v = rw (e, v, load)

  pub load-breaks : (w : Violation) → verdict r ≡ check.breaks w → load s r ≡ unchanged s (breaks w)
  unfolding load
  load-breaks w v = rw (e, v, load)

  pub load-fails : (f : Failure) → verdict r ≡ failure_of f → load s r ≡ unchanged s (failure_answer f)
  unfolding failure_of
  load-fails (Refused k) v = load-refused _ v
  load-fails (Breaks w) v = load-breaks _ v

  pub load-passing : verdict r ≡ pass → load s r ≡ append s rs r
  unfolding load
  load-passing v = rw (e, v, load)
