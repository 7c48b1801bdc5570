-- Shelves on which the calls and the model are computed: document 01's 17 and 16 bytes, shelves that have no end record,
-- and shelves with records that do not pass.
use Rattle.std.specs.Prelude.{ℕ, Bool, ◌&&◌, List, [], ◌∷◌, ◌++◌, T, replicate, set, take}
use Rattle.part.specs.Samples.{P, Q, Z, two_observers}
use Rattle.store.specs.Answer.{Answer, gives, refused, clash, breaks}
use Rattle.store.specs.Model.{Call, clear, load, hookup}
use Rattle.store.specs.Computed.{same_answers, told, plainly}

-- The answers on a shelf of so many bytes 0xAA.
unfoldable run : ℕ → List Call → List Answer
unfolding told
run n calls = told (replicate n 0xAA) calls

-- The second and third appends are found again: Q's input 2 clashes with the joined part's internal event 2.
abbrev calls : List Call
calls =
    clear ∷ load P ∷ load Q ∷ hookup 0 1 ∷ hookup 1 2 ∷ hookup 0 0 ∷ hookup 2 7 ∷ load (take 5 P)
    ∷ load (set Q 6 0x01) ∷ clear ∷ hookup 0 0 ∷ []

-- Their answers.
abbrev expected : List Answer
expected =
    gives 0 ∷ gives 0 ∷ gives 1 ∷ gives 2 ∷ clash 2 ∷ clash 1 ∷ refused 13 ∷ refused 1 ∷ refused 16 ∷ gives 0 ∷ refused 13 ∷ []

-- Parts with two observers: one passes, and is joined with itself, but not with Z; one breaks rule 2 for the second observer, which its
-- answer tells.
abbrev toggling : List ℕ
toggling = set two_observers 13 0

abbrev seen_by_the_second : List ℕ
seen_by_the_second = set (set toggling 19 0x80) 15 1

-- One state and no event, for the same observers.
abbrev still : List ℕ
still = 8 ∷ 0 ∷ 0 ∷ 0 ∷ 2 ∷ 0 ∷ 2 ∷ 1 ∷ 0 ∷ 0 ∷ 0x00 ∷ 0x40 ∷ 0 ∷ 0 ∷ []

abbrev calls_for_two : List Call
calls_for_two =
    clear ∷ load still ∷ load seen_by_the_second ∷ load Z ∷ hookup 0 0 ∷ hookup 0 1 ∷ hookup 1 0 ∷ load toggling
    ∷ load (set still 11 0x00) ∷ []

abbrev expected_for_two : List Answer
expected_for_two =
    gives 0 ∷ gives 0 ∷ breaks (record { level = 0x40; rule = 2; event = 1; s = 0; t = 1; u = 0 }) ∷ gives 1 ∷ gives 2 ∷ refused 9 ∷ refused 9
    ∷ gives 3 ∷ refused 20 ∷ []

-- A shelf that no call has written: P with another grouping, which breaks rule 2, then P, then two bytes of kind 0, then
-- Z and the end record. 14 asks of i and j alone; 13 for either comes before it, and it comes before 10 and 15.
abbrev unfit : List ℕ
unfit = set P 11 1 ++ P ++ (2 ∷ 0 ∷ 0 ∷ 0 ∷ 0 ∷ 0 ∷ 7 ∷ 7 ∷ []) ++ Z ++ replicate 6 0

abbrev calls_on_unfit : List Call
calls_on_unfit =
    hookup 0 1 ∷ hookup 1 0 ∷ hookup 0 0 ∷ hookup 2 3 ∷ hookup 3 2 ∷ hookup 0 4 ∷ hookup 4 0 ∷ hookup 1 1 ∷ hookup 1 3 ∷ load Z ∷ hookup 3 3
    ∷ []

abbrev expected_on_unfit : List Answer
expected_on_unfit =
    refused 14 ∷ refused 14 ∷ refused 14 ∷ refused 14 ∷ refused 14 ∷ refused 13 ∷ refused 13 ∷ clash 1 ∷ refused 15 ∷ gives 4 ∷ refused 15 ∷ []

all_so : Bool
unfolding run told plainly
all_so =
    -- Z on 17 bytes and on 16; a shelf of five bytes; one that was never cleared
    same_answers (run 17 (clear ∷ load Z ∷ [])) (gives 0 ∷ gives 0 ∷ [])
    && same_answers (run 16 (clear ∷ load Z ∷ [])) (gives 0 ∷ refused 15 ∷ [])
    && same_answers (run 5 (clear ∷ load Z ∷ [])) (refused 12 ∷ refused 12 ∷ [])
    && same_answers (run 17 (load Z ∷ [])) (refused 12 ∷ [])
    -- the shelf and the model: room for all, and one byte too few for the third record
    && same_answers (run 133 calls) expected
    && same_answers (plainly 133 calls) expected
    && same_answers (run 132 (take 4 calls)) (gives 0 ∷ gives 0 ∷ gives 1 ∷ refused 15 ∷ [])
    && same_answers (plainly 132 (take 4 calls)) (gives 0 ∷ gives 0 ∷ gives 1 ∷ refused 15 ∷ [])
    -- records of both kinds on one shelf
    && same_answers (run 81 calls_for_two) expected_for_two
    && same_answers (plainly 81 calls_for_two) expected_for_two
    -- records that do not pass, with room for one Z
    && same_answers (told (unfit ++ replicate 11 0xAA) calls_on_unfit) expected_on_unfit

all_as_written : T all_so
unfolding all_so
all_as_written = tt
