-- A record in the earlier reading of internal events (document 01, "The five rules"; document 02, i): the same bytes with its internal
-- events turned into outputs. Machine's specs/Earlier.antt says why.
use Rattle.std.specs.Prelude.{ℕ, ◌+◌, Bool, cond, ◌&&◌, List, [], ◌∷◌, eqb, length}
use Rattle.bounded.specs.Search.{any, each}
use Rattle.words.specs.LittleEndian.{byte}
use Rattle.part.specs.Record.{events, entry_at}

-- An entry has its kind at place x of the bytes.
unfoldable pub holds_kind : List ℕ → ℕ → Bool
holds_kind b x = any (events b) (λ i. eqb (entry_at b i + 2) x)

-- The byte at x: 1 for an entry's kind 2; any other byte as it is, a kind above 2 too.
unfoldable pub as_output_byte : List ℕ → ℕ → ℕ
as_output_byte b x = cond (holds_kind b x && eqb (byte b x) 2) 1 (byte b x)

-- All bytes so, each in its place.
unfoldable pub as_outputs : List ℕ → List ℕ
as_outputs b = each (length b) (λ x. as_output_byte b x ∷ [])
