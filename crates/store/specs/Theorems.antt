-- What is proved of reading a shelf, as statements over all bytes. A proof stands in proofs/ under the name in lower
-- case.
use Rattle.std.specs.Prelude.{ℕ, ◌+◌, ◌≤◌, ◌<◌, ◌≡◌, ◌↔◌, List, [], length, take, drop}
use Rattle.std.proofs.Math.Option.{none, some}
use Rattle.store.specs.Walk.{walk, records}
use Rattle.store.specs.Reading.{part, place}

-- There is no part i: no end record (12), or not so many records before it (13).
pub data NoPart (s : List ℕ) (i : ℕ) : Type 0 where
  no_end : walk s ≡ none → NoPart s i
  no_record : {rs : List (List ℕ)} → walk s ≡ some rs → length rs ≤ i → NoPart s i

-- Part gives an empty part exactly where 12 or 13 holds.
abbrev pub PartEmptyExactly : Type 0
PartEmptyExactly = (s : List ℕ) (i : ℕ) → (part s i ≡ []) ↔ NoPart s i

-- The bytes of part i are those that stand on the shelf from its place on.
pub record Stands (s : List ℕ) (i : ℕ) : Type 0 where
  pub within : place s i + length (part s i) ≤ length s
  pub so : take (length (part s i)) (drop (place s i) s) ≡ part s i

abbrev pub PartStands : Type 0
PartStands = (s : List ℕ) (i : ℕ) → i < length (records s) → Stands s i
