-- The closures of a part as bytes, and what the call that writes them answers (requests c and f).
use Rattle.std.specs.Prelude.{ℕ, List, ◌++◌, ltb, length}
use Rattle.std.proofs.Math.Option.{Option}
use Rattle.bounded.specs.Search.{or_else, when, each}
use Rattle.words.specs.Arrays.{padded}
use Rattle.words.specs.LittleEndian.{digits}
use Rattle.words.specs.Sets.{mask}
use Rattle.part.specs.Record.{observers, states}
use Rattle.screening.specs.Rejections.{rejection}
use Rattle.relations.specs.Relations.{reach, visits, distances}

-- A set, visits and distances as bytes: the set in 8, then each of the lists and zeros behind it in 64.
unfoldable pub piece_bytes : ℕ → List ℕ → List ℕ → List ℕ
piece_bytes set visits distances = digits 8 set ++ padded 64 visits ++ padded 64 distances

-- The piece of s for observer o: its silent closure as a set, its visits, and their distances.
unfoldable pub piece : List ℕ → ℕ → ℕ → List ℕ
piece b o s = piece_bytes (mask (states b) (reach b o s)) (visits b o s) (distances b o s)

-- A block has the pieces of all states, in their order; each observer has one.
unfoldable pub block : List ℕ → ℕ → List ℕ
block b o = each (states b) (piece b o)

unfoldable pub pieces : List ℕ → List ℕ
pieces b = each (observers b) (block b)

-- The first refusal, for a buffer of so many bytes: the record's, else 15 where the pieces do not fit.
unfoldable pub refusal : List ℕ → ℕ → Option ℕ
refusal b room = or_else (rejection b) (when (ltb room (length (pieces b))) 15)
