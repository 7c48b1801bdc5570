-- The laws of the lines with bytes in them.
use Prim.Native.Nat.{ℕ, ◌+◌, ◌*◌, ◌≤◌, ◌<◌}
use mathlib.Core.Path.{◌≡◌, refl}
use mathlib.Core.List.{List, [], ◌∷◌, ◌++◌}
use native.Mathlib.Omega.{arith}
use lib.ListN.{length}
use Rattle.text.specs.Hex.{hex}
use Rattle.text.proofs.HexLaws.{length-hex}
use Rattle.transcript.specs.Lines.{shown}

pub shown-none : (bytes : List ℕ) → length bytes ≡ 0 → shown bytes ≡ []
unfolding shown
shown-none [] e = refl
shown-none (b ∷ bytes) e = absurd (omega arith)

pub shown-some : (bytes : List ℕ) → 0 < length bytes → (32 ∷ []) ++ hex bytes ≡ shown bytes
unfolding shown
shown-some [] l = absurd (omega arith)
shown-some (b ∷ bytes) l = refl

pub length-shown : (bytes : List ℕ) → length (shown bytes) ≤ 1 + 2 * length bytes
unfolding shown
length-shown [] = omega arith
length-shown (b ∷ bytes) = omega (arith, length-hex (b ∷ bytes))
