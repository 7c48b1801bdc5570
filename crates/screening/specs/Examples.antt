-- Records on which the rejections are computed: P, Z and records of kinds 2 and 3 are accepted, and each damaged record has its number. Some break
-- two conditions, so that the order counts; some stand at a limit.
use Rattle.std.specs.Prelude.{ℕ, Bool, true, ◌&&◌, List, [], ◌∷◌, ◌++◌, T, eqb, length, take, set, replicate}
use Rattle.part.specs.Samples.{P, Z, two_observers, bytes_of, resetting}
use Rattle.screening.specs.Computed.{rejected_with}

-- A number, and a record that is rejected with it.
record Line : Type 0 where
  number : ℕ
  bytes : List ℕ

infix 90 ◌is◌
abbrev ◌is◌ : List ℕ → ℕ → Line
b is k = record { number = k; bytes = b }

all_said : List Line → Bool
unfolding rejected_with
all_said [] = true
all_said (l ∷ ls) = eqb (rejected_with l.bytes) l.number && all_said ls

-- A record of kind 2 with one state and no event, for observers of these levels.
abbrev listing : List ℕ → List ℕ
listing levels = bytes_of 2 (length levels) 1 0 0 levels (replicate (length levels) 0) [] []

-- A record of kind 3 without events, with these classes and fine classes.
abbrev limited : List ℕ → List ℕ → List ℕ
limited classes fine = bytes_of 3 0 (length classes) 0 0 [] (classes ++ fine) [] []

abbrev table : List Line
table =
    -- accepted; 1 to 3
    P is 0
    ∷ Z is 0
    ∷ [] is 1
    ∷ take 5 P is 1
    ∷ take 51 P is 2
    ∷ (P ++ 0 ∷ []) is 2
    ∷ set (set P 0 0x2F) 4 2 is 2
    ∷ two_observers is 0
    ∷ set P 4 0 is 3
    ∷ set P 4 4 is 3
    ∷ set (set P 5 1) 7 0 is 3
    -- 4: no body, n = 0, n = 65 though 5 holds too, the start at n, m = 33; the limits themselves; 5
    ∷ (0 ∷ 0 ∷ 0 ∷ 0 ∷ 1 ∷ 0 ∷ []) is 4
    ∷ set P 7 0 is 4
    ∷ set P 7 65 is 4
    ∷ resetting 65 0 is 4
    ∷ resetting 64 0 is 0
    ∷ set P 8 2 is 4
    ∷ set P 8 1 is 0
    ∷ resetting 1 33 is 4
    ∷ resetting 1 32 is 0
    ∷ set P 7 3 is 5
    ∷ set (set P 7 3) 10 1 is 5
    -- 20: a count of 0, 1 or 5, but not of 2 or 4; levels that are equal or fall, at the second, third and fourth place. They rise as bytes,
    -- whether one is below the other or not. 5 comes before it and goes by the count as it stands.
    ∷ listing [] is 20
    ∷ listing (0x00 ∷ []) is 20
    ∷ listing (0x00 ∷ 0x40 ∷ []) is 0
    ∷ listing (0x00 ∷ 0x40 ∷ 0x80 ∷ 0xC0 ∷ []) is 0
    ∷ listing (0x00 ∷ 0x40 ∷ 0x80 ∷ 0xC0 ∷ 0xC1 ∷ []) is 20
    ∷ listing (0x40 ∷ 0x40 ∷ []) is 20
    ∷ listing (0x40 ∷ 0x00 ∷ []) is 20
    ∷ listing (0x00 ∷ 0x80 ∷ 0x40 ∷ []) is 20
    ∷ listing (0x00 ∷ 0x40 ∷ 0x80 ∷ 0x80 ∷ []) is 20
    ∷ listing (0x41 ∷ 0x42 ∷ []) is 0
    ∷ set P 4 2 is 5
    ∷ set two_observers 6 1 is 5
    ∷ set two_observers 6 3 is 5
    -- 6: state 0 not of class 0, a class skipped; 7: equal and falling identifiers, a kind of 3
    ∷ set P 10 1 is 6
    ∷ set P 11 2 is 6
    ∷ set P 11 1 is 0
    -- 6 in each column, each numbered by itself: the classes of the first do not count for the second; 20 before it
    ∷ set two_observers 12 1 is 6
    ∷ set two_observers 13 2 is 6
    ∷ set two_observers 14 1 is 6
    ∷ set two_observers 15 2 is 6
    ∷ set two_observers 15 1 is 0
    ∷ set (set two_observers 11 0x00) 12 1 is 20
    -- 21: fine classes not numbered by first appearance, though they would be as the next ones of the first column; a fine class in two
    -- classes; but not fine classes that lie inside the classes, equal to them or not. 5 before it, and 6, which asks nothing of the fine ones.
    ∷ set P 4 3 is 5
    ∷ limited (0 ∷ 0 ∷ 1 ∷ 1 ∷ []) (0 ∷ 1 ∷ 2 ∷ 2 ∷ []) is 0
    ∷ limited (0 ∷ 0 ∷ 1 ∷ 1 ∷ []) (0 ∷ 0 ∷ 1 ∷ 1 ∷ []) is 0
    ∷ limited (0 ∷ 0 ∷ 1 ∷ 1 ∷ []) (0 ∷ 1 ∷ 2 ∷ 1 ∷ []) is 21
    ∷ limited (0 ∷ 0 ∷ 1 ∷ 1 ∷ []) (0 ∷ 0 ∷ 0 ∷ 0 ∷ []) is 21
    ∷ limited (0 ∷ 0 ∷ 1 ∷ 1 ∷ []) (0 ∷ 0 ∷ 2 ∷ 2 ∷ []) is 21
    ∷ limited (0 ∷ 0 ∷ 1 ∷ 1 ∷ []) (1 ∷ 1 ∷ 0 ∷ 0 ∷ []) is 21
    ∷ limited (0 ∷ 0 ∷ 0 ∷ 0 ∷ []) (0 ∷ 1 ∷ 0 ∷ 2 ∷ []) is 0
    ∷ limited (0 ∷ 0 ∷ 2 ∷ 1 ∷ []) (0 ∷ 1 ∷ 2 ∷ 3 ∷ []) is 6
    ∷ limited (0 ∷ 0 ∷ 2 ∷ 1 ∷ []) (0 ∷ 0 ∷ 0 ∷ 0 ∷ []) is 6
    ∷ set (limited (0 ∷ 0 ∷ []) (0 ∷ 2 ∷ [])) 6 0x01 is 21
    ∷ set (limited (0 ∷ 0 ∷ []) (0 ∷ 1 ∷ [])) 6 0x01 is 16
    ∷ set P 16 1 is 7
    ∷ set P 12 3 is 7
    ∷ set P 14 3 is 7
    -- 16: rank 0 with a compartment as the observer, in the first event, in the last; but rank 1 with one, and rank 0 without one
    ∷ set P 6 0x01 is 16
    ∷ set P 15 0x01 is 16
    ∷ set P 19 0x3F is 16
    ∷ set P 6 0x41 is 0
    ∷ set P 19 0x41 is 0
    ∷ set P 15 0x00 is 0
    -- each listed observer; 20 before it
    ∷ listing (0x01 ∷ 0x40 ∷ []) is 16
    ∷ listing (0x00 ∷ 0x01 ∷ []) is 16
    ∷ listing (0x02 ∷ 0x01 ∷ []) is 20
    -- 8: a bit at n; each before the next: 6, 7, 16, 8
    ∷ set P 20 4 is 8
    ∷ set P 51 0x80 is 8
    ∷ set (set P 11 2) 12 2 is 6
    ∷ set (set P 18 3) 15 0x01 is 7
    ∷ set (set P 19 0x01) 20 4 is 16
    ∷ set (set P 18 3) 20 4 is 7
    ∷ []

screened : T (all_said table)
unfolding all_said
screened = tt
