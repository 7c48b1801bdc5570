-- The laws of bytes in hexadecimal.
use Prim.Native.Nat.{ℕ, ◌+◌, ◌*◌, ◌/◌, ◌%◌, ◌<◌}
use mathlib.Core.Path.{◌≡◌, refl, ap, ◌∙◌}
use mathlib.Core.List.{List, [], ◌∷◌, ◌++◌}
use native.Mathlib.Omega.{arith}
use lib.ListN.{length, get_or, take}
use Rattle.std.proofs.lemmas.List.{take_more}
use Rattle.text.specs.Hex.{hex_digit, hex}

pub length-hex : (bytes : List ℕ) → length (hex bytes) ≡ 2 * length bytes
unfolding hex
length-hex [] = refl
length-hex (b ∷ bytes) = let more = length-hex bytes in omega arith

hex-append : (a b : List ℕ) → hex (a ++ b) ≡ hex a ++ hex b
unfolding hex
hex-append [] b = refl
hex-append (x ∷ a) b = ap (λ (more : List ℕ). hex_digit (x / 16) ∷ hex_digit (x % 16) ∷ more) (hex-append a b)

-- One byte more.
pub hex_more : (bytes : List ℕ) (i : ℕ) → i < length bytes
    → hex (take (i + 1) bytes)
    ≡ hex (take i bytes) ++ (hex_digit (get_or bytes i 0 / 16) ∷ hex_digit (get_or bytes i 0 % 16) ∷ [])
unfolding hex
hex_more bytes i h = ap hex (take_more bytes i 0 h) ∙ hex-append (take i bytes) (get_or bytes i 0 ∷ [])
