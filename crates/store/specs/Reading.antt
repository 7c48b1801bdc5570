-- Count and Part (document 01, "The shelf").
use Rattle.std.specs.Prelude.{ℕ, length, take, get_or}
use mathlib.Core.List.{List, [], flatten}
use Rattle.std.proofs.Math.Option.{none, some}
use Rattle.store.specs.Walk.{walk, records}
use Rattle.store.specs.Answer.{Answer, gives, refused}

-- The number of records before the end record; 12 where there is none.
unfoldable pub count : List ℕ → Answer
count s = elim (walk s) [ none ↦ refused 12 | some rs ↦ gives (length rs) ]

-- The bytes of record i; none where 12 or 13 holds.
unfoldable pub part : List ℕ → ℕ → List ℕ
part s i = get_or (records s) i []

-- Where record i begins on the shelf: behind the records before it.
unfoldable pub place : List ℕ → ℕ → ℕ
place s i = length (flatten (take i (records s)))
