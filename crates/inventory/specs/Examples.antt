-- What the calls answer and write, on shelves with records that pass, that do not, and without an end record.
use Rattle.std.specs.Prelude.{ℕ, ◌≡◌, refl, replicate}
use mathlib.Core.List.{List, [], ◌∷◌, ◌++◌, flatten}
use Rattle.std.proofs.Math.Option.{none, some}
use Rattle.bounded.specs.Search.{when, each}
use Rattle.words.specs.Laid.{over, laid_unless}
use Rattle.words.specs.LittleEndian.{number, digits, as_words}
use Rattle.part.specs.Record.{body_length, kind}
use Rattle.part.specs.Samples.{Z}
use Rattle.store.specs.Walk.{front, walk_at_most, walk, records}
use Rattle.store.specs.Reading.{part, place}
use Rattle.inventory.specs.Inventory.{Told, numbers, refused, count_told, part_told, bytes, refusal}

-- What is told, as it computes.
counted : List ℕ → Told
unfolding count_told walk walk_at_most front body_length kind number
counted s = count_told s

found : List ℕ → ℕ → Told
unfolding counted part_told part place records flatten
found s i = part_told s i

-- Z of 11 bytes, a record of kind 0 with two bytes of body, which no Check would pass, and Z again; then the end record
-- and a byte that means nothing.
abbrev three : List ℕ
three = Z ++ (2 ∷ 0 ∷ 0 ∷ 0 ∷ 0 ∷ 0 ∷ 7 ∷ 7 ∷ []) ++ Z ++ replicate 6 0 ++ (5 ∷ [])

how_many : counted three ≡ numbers (3 ∷ [])
unfolding counted
how_many = refl

-- Places are those of the headers, and lengths count them: the last part begins behind 11 and 8 bytes.
first_part : found three 0 ≡ numbers (0 ∷ 11 ∷ [])
unfolding found
first_part = refl

second_part : found three 1 ≡ numbers (11 ∷ 8 ∷ [])
unfolding found
second_part = refl

last_part : found three 2 ≡ numbers (19 ∷ 11 ∷ [])
unfolding found
last_part = refl

-- The end record is no part, and the number of a part begins with 0.
past_the_last : found three 3 ≡ refused 13
unfolding found
past_the_last = refl

on_an_empty_shelf : found (replicate 6 0) 0 ≡ refused 13
unfolding found
on_an_empty_shelf = refl

none_there : counted (replicate 6 0) ≡ numbers (0 ∷ [])
unfolding counted
none_there = refl

-- Without an end record it is 12, also for a number that no part has.
endless : counted (Z ++ replicate 5 0) ≡ refused 12
unfolding counted
endless = refl

endless_part : found (Z ++ replicate 5 0) 9 ≡ refused 12
unfolding found
endless_part = refl

-- The shelf's refusal comes before 15; 8 bytes are enough for one number, 16 for two, and one less is not.
shelf_first : refusal (counted []) 0 ≡ some 12
unfolding counted refusal
shelf_first = refl

part_first : refusal (found three 3) 0 ≡ some 13
unfolding found refusal
part_first = refl

enough : refusal (counted three) 8 ≡ none
unfolding counted refusal when
enough = refl

short : refusal (counted three) 7 ≡ some 15
unfolding counted refusal when
short = refl

enough_for_two : refusal (found three 2) 16 ≡ none
unfolding found refusal when
enough_for_two = refl

short_for_two : refusal (found three 2) 15 ≡ some 15
unfolding found refusal when
short_for_two = refl

-- Later bytes stay, and all do where the call is refused.
after : laid_unless (refusal (found three 2) 17) (bytes (found three 2)) (replicate 17 9)
    ≡ 19 ∷ 0 ∷ 0 ∷ 0 ∷ 0 ∷ 0 ∷ 0 ∷ 0 ∷ 11 ∷ 0 ∷ 0 ∷ 0 ∷ 0 ∷ 0 ∷ 0 ∷ 0 ∷ 9 ∷ []
unfolding found refusal when bytes as_words each digits laid_unless over
after = refl

unchanged : laid_unless (refusal (found three 3) 17) (bytes (found three 3)) (replicate 17 9) ≡ replicate 17 9
unfolding found refusal bytes laid_unless
unchanged = refl
