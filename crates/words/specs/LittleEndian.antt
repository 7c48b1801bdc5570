-- Numbers in bytes, lowest byte first (document 01: "All numbers are little-endian").
use Rattle.std.specs.Prelude.{ℕ, zero, suc, ◌+◌, ◌*◌, ◌/◌, ◌%◌, ◌<◌, List, [], ◌∷◌, length, get_or}
use Rattle.bounded.specs.Search.{each}

-- Every element is a byte. So it is in each list that stands for bytes of the program.
abbrev pub Bytes : List ℕ → Type 0
Bytes b = (i : ℕ) → i < length b → get_or b i 0 < 256

-- The byte at i; 0 past the end.
abbrev pub byte : List ℕ → ℕ → ℕ
byte b i = get_or b i 0

-- The number in the k bytes from `at` on.
unfoldable pub number : ℕ → List ℕ → ℕ → ℕ
number zero b at = 0
number (suc k) b at = byte b at + 256 * number k b (at + 1)

-- The k bytes of a number.
unfoldable pub digits : ℕ → ℕ → List ℕ
digits zero v = []
digits (suc k) v = v % 256 ∷ digits k (v / 256)

-- Numbers one behind the other, eight bytes each.
unfoldable pub as_words : List ℕ → List ℕ
as_words ns = each (length ns) (λ i. digits 8 (get_or ns i 0))
