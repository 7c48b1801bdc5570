-- What the call answers and writes, on records of document 01, on one with two observers and on a limited part.
use Rattle.std.specs.Prelude.{ℕ, ◌≡◌, refl, List, [], ◌∷◌, ◌++◌, set, replicate}
use Rattle.bounded.specs.Search.{each}
use Rattle.words.specs.Laid.{over}
use Rattle.words.specs.LittleEndian.{digits, as_words}
use Rattle.part.specs.Samples.{P, Z, T, two_observers}
use Rattle.restrictive.specs.Verdict.{Verdict, refused}
use Rattle.restrictive.specs.Judged.{judged, counted, told, broken_at}
use Rattle.explain.specs.Explanation.{numbers, explanation, no_room, explained, buffer_after}

-- The explanation, the answer and the buffer afterwards, as they compute.
written : List ℕ → List ℕ
unfolding judged counted told explanation numbers as_words each digits
written b = explanation b

answered : List ℕ → ℕ → Verdict
unfolding written explained no_room
answered b room = explained b room

left : List ℕ → List ℕ → List ℕ
unfolding answered buffer_after over
left b out = buffer_after b out

-- T with a silent step from 0 to 2, for an observer of this level: rule 4 is broken by event 1 at 0, 2 and 1. The closure of 0 has two
-- states.
abbrev leaking : ℕ → List ℕ
leaking observer = set (T 1 0xC0 4 0 0) 6 observer

a_break : written (leaking 0x40) ≡ as_words (4 ∷ 1 ∷ 0 ∷ 2 ∷ 1 ∷ 4 ∷ 0x40 ∷ 0 ∷ [])
unfolding written
a_break = refl

-- Of several observers the level is that of the one concerned: here input 1 is high to both, and only the second has two classes.
second_concerned : written (set (set (set two_observers 19 0x80) 13 0) 15 1) ≡ as_words (2 ∷ 1 ∷ 0 ∷ 1 ∷ 0 ∷ 0 ∷ 0x40 ∷ 0 ∷ [])
unfolding written
second_concerned = refl

-- P passes, and its observer's level is not told.
a_pass : written P ≡ as_words (0 ∷ 0 ∷ 0 ∷ 0 ∷ 0 ∷ 2 ∷ 0 ∷ 1 ∷ [])
unfolding written
a_pass = refl

-- A limited part without events: two classes, with one fine class in the first and two in the second. The limit is 2, and not the 3 states
-- that were taken up.
a_limited_pass :
    written (10 ∷ 0 ∷ 0 ∷ 0 ∷ 3 ∷ 0 ∷ 0 ∷ 3 ∷ 0 ∷ 0 ∷ 0 ∷ 1 ∷ 1 ∷ 0 ∷ 1 ∷ 2 ∷ [])
    ≡ as_words (0 ∷ 0 ∷ 0 ∷ 0 ∷ 0 ∷ 3 ∷ 0 ∷ 2 ∷ [])
unfolding written
a_limited_pass = refl

-- 64 bytes are enough, and one less is not, where there is something to explain.
enough : answered (leaking 0) 64 ≡ broken_at 4 1 0 2 1
unfolding answered
enough = refl

short : answered (leaking 0) 63 ≡ refused 15
unfolding answered
short = refl

short_pass : answered P 63 ≡ refused 15
unfolding answered
short_pass = refl

-- The record's own refusal comes first.
refusal_first : answered [] 0 ≡ refused 1
unfolding answered
refusal_first = refl

-- Later bytes stay, and all do where the call is refused: a short buffer, or bytes that are no record.
after : left Z (replicate 65 9) ≡ as_words (0 ∷ 0 ∷ 0 ∷ 0 ∷ 0 ∷ 1 ∷ 0 ∷ 1 ∷ []) ++ (9 ∷ [])
unfolding left
after = refl

unchanged : left Z (replicate 63 9) ≡ replicate 63 9
unfolding left
unchanged = refl

unwritten : left [] (replicate 64 9) ≡ replicate 64 9
unfolding left
unwritten = refl
