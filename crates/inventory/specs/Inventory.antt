-- Count and Part in numbers, for a host program, and what the calls that write them answer (document 01, "The shelf").
use Rattle.std.specs.Prelude.{ℕ, ◌*◌, cond, List, [], ◌∷◌, ltb, leb, length}
use Rattle.std.proofs.Math.Option.{Option, none, some}
use Rattle.bounded.specs.Search.{when}
use Rattle.words.specs.LittleEndian.{as_words}
use Rattle.store.specs.Walk.{walk}
use Rattle.store.specs.Reading.{part, place}

-- What is told of a shelf: some numbers, or a refusal.
pub data Told : Type 0 where
  numbers : List ℕ → Told
  refused : ℕ → Told

-- Count: how many records stand before the end record; 12.
unfoldable pub count_told : List ℕ → Told
count_told s = elim (walk s) [ none ↦ refused 12 | some rs ↦ numbers (length rs ∷ []) ]

-- Part i: where its record begins on the shelf, and how many bytes it has; 12, 13.
unfoldable pub part_told : List ℕ → ℕ → Told
part_told s i =
    elim (walk s) [
      | none ↦ refused 12
      | some rs ↦ cond (leb (length rs) i) (refused 13) (numbers (place s i ∷ length (part s i) ∷ []))
    ]

-- Eight bytes for each number.
unfoldable pub bytes : Told → List ℕ
bytes (numbers ns) = as_words ns
bytes (refused k) = []

-- The first refusal, for a buffer of so many bytes: the shelf's, else 15 where the numbers do not fit.
unfoldable pub refusal : Told → ℕ → Option ℕ
refusal (numbers ns) room = when (ltb room (8 * length ns)) 15
refusal (refused k) room = some k
