-- Some scripts, answers and runs, computed.
use Rattle.std.specs.Prelude.{ℕ, ◌≡◌, refl, List, [], ◌∷◌, ◌++◌, length, replicate}
use Rattle.std.proofs.Math.Option.{Option, none, some}
use Rattle.bounded.specs.Search.{when, each}
use Rattle.words.specs.Laid.{over}
use Rattle.words.specs.LittleEndian.{number, digits, as_words}
use Rattle.script.specs.Operation.{load_of, call, operation, size}
use Rattle.store.specs.Answer.{gives, refused, clash, breaks}
use Rattle.store.specs.Model.{clear, load, hookup}
use Rattle.store.specs.Demand.{shelf_after, shelf_answers}
use Rattle.store.specs.Computed.{told}
use Rattle.batch.specs.Script.{call_of, calls_at_most, calls, listed}
use Rattle.batch.specs.Slots.{numbers, slots}
use Rattle.batch.specs.Running.{refusal, made}
use Rattle.batch.specs.Runs.{Run, all_made, shelf_after_runs, buffers_after, dealt}

-- No call, and one of each kind.
pub no_calls : calls [] ≡ some []
unfolding calls calls_at_most
no_calls = refl

pub three_calls : calls (0 ∷ 1 ∷ 2 ∷ 0 ∷ 0 ∷ 0 ∷ 7 ∷ 8 ∷ 2 ∷ 1 ∷ 0 ∷ 0 ∷ 0 ∷ 3 ∷ 0 ∷ 0 ∷ 0 ∷ [])
    ≡ some (clear ∷ load (7 ∷ 8 ∷ []) ∷ hookup 1 3 ∷ [])
unfolding calls calls_at_most call_of operation call size load_of number
three_calls = refl

-- Malformed: Count among the calls, an unknown operation, a record cut off at the end.
pub with_count : calls (0 ∷ 3 ∷ 0 ∷ []) ≡ none
unfolding calls calls_at_most call_of operation call size
with_count = refl

pub with_unknown : calls (0 ∷ 9 ∷ []) ≡ none
unfolding calls calls_at_most call_of operation call size
with_unknown = refl

pub cut_off : calls (0 ∷ 1 ∷ 2 ∷ 0 ∷ 0 ∷ 0 ∷ 7 ∷ []) ≡ none
unfolding calls calls_at_most call_of operation call size load_of number
cut_off = refl

-- A part's number; refusal 15; refusal 10 with identifier 258; a break with six different values.
pub number_words : as_words (numbers (gives 5))
    ≡ 0 ∷ 0 ∷ 0 ∷ 0 ∷ 0 ∷ 0 ∷ 0 ∷ 0 ∷ 5 ∷ 0 ∷ 0 ∷ 0 ∷ 0 ∷ 0 ∷ 0 ∷ 0 ∷ 0 ∷ 0 ∷ 0 ∷ 0 ∷ 0 ∷ 0 ∷ 0 ∷ 0 ∷
    0 ∷ 0 ∷ 0 ∷ 0 ∷ 0 ∷ 0 ∷ 0 ∷ 0 ∷ 0 ∷ 0 ∷ 0 ∷ 0 ∷ 0 ∷ 0 ∷ 0 ∷ 0 ∷ 0 ∷ 0 ∷ 0 ∷ 0 ∷ 0 ∷ 0 ∷ 0 ∷ 0 ∷
    0 ∷ 0 ∷ 0 ∷ 0 ∷ 0 ∷ 0 ∷ 0 ∷ 0 ∷ 0 ∷ 0 ∷ 0 ∷ 0 ∷ 0 ∷ 0 ∷ 0 ∷ 0 ∷ []
unfolding as_words numbers digits each
number_words = refl

pub refusal_words : as_words (numbers (refused 15))
    ≡ 1 ∷ 0 ∷ 0 ∷ 0 ∷ 0 ∷ 0 ∷ 0 ∷ 0 ∷ 15 ∷ 0 ∷ 0 ∷ 0 ∷ 0 ∷ 0 ∷ 0 ∷ 0 ∷ 0 ∷ 0 ∷ 0 ∷ 0 ∷ 0 ∷ 0 ∷ 0 ∷ 0 ∷
    0 ∷ 0 ∷ 0 ∷ 0 ∷ 0 ∷ 0 ∷ 0 ∷ 0 ∷ 0 ∷ 0 ∷ 0 ∷ 0 ∷ 0 ∷ 0 ∷ 0 ∷ 0 ∷ 0 ∷ 0 ∷ 0 ∷ 0 ∷ 0 ∷ 0 ∷ 0 ∷ 0 ∷
    0 ∷ 0 ∷ 0 ∷ 0 ∷ 0 ∷ 0 ∷ 0 ∷ 0 ∷ 0 ∷ 0 ∷ 0 ∷ 0 ∷ 0 ∷ 0 ∷ 0 ∷ 0 ∷ []
unfolding as_words numbers digits each
refusal_words = refl

pub clash_words : as_words (numbers (clash 258))
    ≡ 2 ∷ 0 ∷ 0 ∷ 0 ∷ 0 ∷ 0 ∷ 0 ∷ 0 ∷ 2 ∷ 1 ∷ 0 ∷ 0 ∷ 0 ∷ 0 ∷ 0 ∷ 0 ∷ 0 ∷ 0 ∷ 0 ∷ 0 ∷ 0 ∷ 0 ∷ 0 ∷ 0 ∷
    0 ∷ 0 ∷ 0 ∷ 0 ∷ 0 ∷ 0 ∷ 0 ∷ 0 ∷ 0 ∷ 0 ∷ 0 ∷ 0 ∷ 0 ∷ 0 ∷ 0 ∷ 0 ∷ 0 ∷ 0 ∷ 0 ∷ 0 ∷ 0 ∷ 0 ∷ 0 ∷ 0 ∷
    0 ∷ 0 ∷ 0 ∷ 0 ∷ 0 ∷ 0 ∷ 0 ∷ 0 ∷ 0 ∷ 0 ∷ 0 ∷ 0 ∷ 0 ∷ 0 ∷ 0 ∷ 0 ∷ []
unfolding as_words numbers digits each
clash_words = refl

pub break_words : as_words (numbers (breaks (record { level = 0x40; rule = 5; event = 515; s = 1; t = 4; u = 6 })))
    ≡ 3 ∷ 0 ∷ 0 ∷ 0 ∷ 0 ∷ 0 ∷ 0 ∷ 0 ∷ 5 ∷ 0 ∷ 0 ∷ 0 ∷ 0 ∷ 0 ∷ 0 ∷ 0 ∷ 3 ∷ 2 ∷ 0 ∷ 0 ∷ 0 ∷ 0 ∷ 0 ∷ 0 ∷
    1 ∷ 0 ∷ 0 ∷ 0 ∷ 0 ∷ 0 ∷ 0 ∷ 0 ∷ 4 ∷ 0 ∷ 0 ∷ 0 ∷ 0 ∷ 0 ∷ 0 ∷ 0 ∷ 6 ∷ 0 ∷ 0 ∷ 0 ∷ 0 ∷ 0 ∷ 0 ∷ 0 ∷
    0x40 ∷ 0 ∷ 0 ∷ 0 ∷ 0 ∷ 0 ∷ 0 ∷ 0 ∷ 0 ∷ 0 ∷ 0 ∷ 0 ∷ 0 ∷ 0 ∷ 0 ∷ 0 ∷ []
unfolding as_words numbers digits each
break_words = refl

-- ---- runs

-- The refusal of a run, if any, and the shelf and the buffer after it, as they compute.
leaves : List ℕ → List ℕ → List ℕ → Option ℕ × (List ℕ × List ℕ)
unfolding told shelf_after refusal made when listed calls calls_at_most call_of operation call size load_of number slots numbers as_words digits each over
leaves script s out =
    let cs = made script (length out) in
    (refusal script (length out), (shelf_after cs s, over out 0 (slots (shelf_answers cs s))))

-- A Clear on seven bytes; the last of them and the byte behind the answer stay.
cleared : leaves (0 ∷ []) (replicate 7 9) (replicate 65 8) ≡ (none, (replicate 6 0 ++ (9 ∷ []), replicate 64 0 ++ (8 ∷ [])))
unfolding leaves
cleared = refl

-- No call at all.
nothing_to_do : leaves [] (9 ∷ []) (8 ∷ []) ≡ (none, (9 ∷ [], 8 ∷ []))
unfolding leaves
nothing_to_do = refl

-- The shelf is taken as it is, without a Clear: a Hookup on one byte is refused with 12, on an empty shelf with 13, on one with a record of
-- kind 0 with 14.
abbrev one_hookup : List ℕ
one_hookup = 2 ∷ replicate 8 0

abbrev refused_with : ℕ → List ℕ
refused_with k = 1 ∷ replicate 7 0 ++ k ∷ replicate 55 0

on_one_byte : leaves one_hookup (9 ∷ []) (replicate 64 8) ≡ (none, (9 ∷ [], refused_with 12))
unfolding leaves
on_one_byte = refl

on_an_empty_shelf : leaves one_hookup (replicate 6 0) (replicate 64 8) ≡ (none, (replicate 6 0, refused_with 13))
unfolding leaves
on_an_empty_shelf = refl

on_an_unfit_record : leaves one_hookup (1 ∷ replicate 12 0) (replicate 64 8) ≡ (none, (1 ∷ replicate 12 0, refused_with 14))
unfolding leaves
on_an_unfit_record = refl

-- A refused call does not stop the run.
goes_on : leaves (one_hookup ++ (0 ∷ [])) (replicate 6 9) (replicate 128 8)
    ≡ (none, (replicate 6 0, refused_with 12 ++ replicate 64 0))
unfolding leaves
goes_on = refl

-- A malformed script comes before too few bytes for the answers, and with either nothing changes, also where a call comes first.
malformed_first : leaves (0 ∷ 3 ∷ []) (replicate 6 9) (8 ∷ []) ≡ (some 99, (replicate 6 9, 8 ∷ []))
unfolding leaves
malformed_first = refl

a_byte_short : leaves (0 ∷ 0 ∷ []) (replicate 6 9) (replicate 127 8) ≡ (some 15, (replicate 6 9, replicate 127 8))
unfolding leaves
a_byte_short = refl

-- Four runs: a malformed one, a Clear, one without room for its answer, and two calls. The refused ones make none.
abbrev four : List Run
four =
    record { script = 0 ∷ 3 ∷ []; out = replicate 128 8 } ∷ record { script = 0 ∷ []; out = replicate 64 8 }
    ∷ record { script = 0 ∷ []; out = replicate 63 8 } ∷ record { script = one_hookup ++ (0 ∷ []); out = replicate 130 8 } ∷ []

four_make_three : all_made four ≡ clear ∷ hookup 0 0 ∷ clear ∷ []
unfolding leaves all_made
four_make_three = refl

-- Answers are dealt by the calls that were made, so that the refused runs take none.
in_turn : dealt four (gives 5 ∷ refused 13 ∷ gives 7 ∷ [])
    ≡ replicate 128 8 ∷ (replicate 8 0 ++ 5 ∷ replicate 55 0) ∷ replicate 63 8
    ∷ (refused_with 13 ++ replicate 8 0 ++ 7 ∷ replicate 55 0 ++ 8 ∷ 8 ∷ []) ∷ []
unfolding leaves dealt
in_turn = refl

left_by_four : buffers_after four (replicate 6 9)
    ≡ replicate 128 8 ∷ replicate 64 0 ∷ replicate 63 8 ∷ (refused_with 13 ++ replicate 64 0 ++ 8 ∷ 8 ∷ []) ∷ []
unfolding leaves buffers_after
left_by_four = refl

shelf_of_four : shelf_after_runs four (replicate 7 9) ≡ replicate 6 0 ++ (9 ∷ [])
unfolding leaves shelf_after_runs
shelf_of_four = refl
