-- What is told of a shelf in each case, and what the calls answer to it.
use Prim.Native.Nat.{ℕ, ◌*◌, ◌≤◌, ◌<◌}
use mathlib.Core.Path.{◌≡◌, sym, ap}
use mathlib.Core.List.{List, [], ◌∷◌}
use mathlib.Core.Option.{none, some}
use borrow.Author.Tests.{lt-ltb, le-ltb, le-leb, lt-leb}
use lib.ListN.{length}
use Rattle.bounded.specs.Search.{when, each}
use Rattle.words.specs.Laid.{over}
use Rattle.words.specs.LittleEndian.{digits, as_words}
use Rattle.words.proofs.LaidLaws.{over-append}
use Rattle.store.specs.Walk.{walk}
use Rattle.store.specs.Found.{Ends}
use Rattle.store.specs.Reading.{part, place}
use Rattle.std.specs.Prelude.{Result, Ok, Err, IsErrAnd}
use Rattle.inventory.specs.declared.answer.Untold.{Untold}
use Rattle.inventory.specs.declared.answer.Untold.TheVariants.{NoEnd}
use Rattle.inventory.specs.Answers.{number_of, refusal_of}
use Rattle.inventory.specs.Inventory.{Told, numbers, refused, count_told, part_told, bytes, refusal}

-- ---- what is told

pub endless : (s : List ℕ) → walk s ≡ none → count_told s ≡ refused 12
unfolding count_told
endless s e = rw (e, count_told)

pub endless_part : (s : List ℕ) (i : ℕ) → walk s ≡ none → part_told s i ≡ refused 12
unfolding part_told
endless_part s i e = rw (e, part_told)

pub counted : (s : List ℕ) (n at : ℕ) → Ends s n at → count_told s ≡ numbers (n ∷ [])
unfolding count_told
counted s n at w = rw (w.ends, count_told) (ap (λ (k : ℕ). numbers (k ∷ [])) (sym w.many))

module _ (s : List ℕ) (n at : ℕ) (w : Ends s n at) (i : ℕ) where
  pub absent : n ≤ i → part_told s i ≡ refused 13
  unfolding part_told
  absent h = rw (w.ends, part_told, ← w.many, le-leb n i h)

  pub placed : i < n → part_told s i ≡ numbers (place s i ∷ length (part s i) ∷ [])
  unfolding part_told
  placed h = rw (w.ends, part_told, ← w.many, lt-leb n i h)

-- ---- what is answered

module _ {t : Told} (room : ℕ) where
  pub turned_away : {k : ℕ} → t ≡ refused k → some k ≡ refusal t room
  unfolding refusal
  turned_away e = rw e

  pub roomless : {ns : List ℕ} → t ≡ numbers ns → room < 8 * length ns → some 15 ≡ refusal t room
  unfolding refusal when
  roomless {ns} e h = rw (e, lt-ltb room (8 * length ns) h)

  pub roomy : {ns : List ℕ} → t ≡ numbers ns → 8 * length ns ≤ room → none ≡ refusal t room
  unfolding refusal when
  roomy {ns} e h = rw (e, le-ltb room (8 * length ns) h)

-- At the exit of a walk without an end record.
pub told-no_end : (r : Result (Unit {0}) Untold) → IsErrAnd r (λ u. u ≡ NoEnd) → refusal_of r ≡ some 12
told-no_end (Ok done) h = absurd h
told-no_end (Err u) h = ap (λ (v : Untold). some (number_of v)) h

-- ---- what is written

pub one_laid : {t : Told} {a : ℕ} (out : List ℕ) → t ≡ numbers (a ∷ []) → over out 0 (digits 8 a) ≡ over out 0 (bytes t)
unfolding bytes as_words each
one_laid out e = rw (e, bytes)

-- First x is laid, which is the first number, then y, which is the second.
pub two_laid : {t : Told} {a b x y : ℕ} {once twice : List ℕ} (out : List ℕ) → t ≡ numbers (a ∷ b ∷ [])
    → once ≡ over out 0 (digits 8 x) → x ≡ a
    → twice ≡ over once 8 (digits 8 y) → y ≡ b
    → twice ≡ over out 0 (bytes t)
unfolding bytes as_words each digits
two_laid {t} {a} {b} out e first is-a second is_b =
    rw (e, bytes, second, is_b, first, is-a) (sym (over-append out 0 (digits 8 a) (digits 8 b)))
