-- Bytes laid over a list.
use Rattle.std.specs.Prelude.{ℕ, ◌+◌, ◌≡◌, List, length}
use Rattle.std.proofs.Math.Option.{Option, none, some}
use Rattle.std.proofs.lemmas.List.Edits.{sets}

-- The list with the bytes from place at on, one behind the other.
unfoldable pub over : List ℕ → ℕ → List ℕ → List ℕ
over out at bytes = sets out at bytes

-- A buffer after a call that lays bytes over its start, or is refused and leaves it as it was.
unfoldable pub laid_unless : Option ℕ → List ℕ → List ℕ → List ℕ
laid_unless none bytes out = over out 0 bytes
laid_unless (some refusal) bytes out = out

-- What laying the bytes over a list from place at on leaves: the list after it, and the place behind the bytes.
pub record Laid (before : List ℕ) (at : ℕ) (bytes after : List ℕ) (next : ℕ) : Type 0 where
  pub text : after ≡ over before at bytes
  pub behind : next ≡ at + length bytes
