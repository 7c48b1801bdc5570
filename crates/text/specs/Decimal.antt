-- Decimal numbers, as bytes of ASCII.
use Rattle.std.specs.Prelude.{ℕ, zero, suc, ◌+◌, ◌/◌, ◌%◌, List, [], ◌∷◌, ◌++◌}

-- The last decimal digit of n.
abbrev pub last_digit : ℕ → ℕ
last_digit n = 48 + n % 10

-- The digits of n: the last, and before it those of n / 10, unless that is 0. There are at most `most` of them.
unfoldable pub digits : ℕ → ℕ → List ℕ
digits zero n = []
digits (suc most) n = elim (n / 10) [ zero ↦ [] | suc q ↦ digits most (suc q) ] ++ (last_digit n ∷ [])

-- n in decimal, with no zeros in front; 0 is "0". n + 1 digits are always enough.
unfoldable pub decimal : ℕ → List ℕ
decimal n = digits (suc n) n
