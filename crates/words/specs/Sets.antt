-- Sets of states as 64-bit words: t is a member of x where bit t of x is set, bit 0 lowest (document 01, "The part record").
use Rattle.std.specs.Prelude.{ℕ, zero, suc, ◌+◌, ◌-◌, ◌/◌, ◌%◌, ◌^◌, ◌<◌, ◌≡◌, Bool, ◌&&◌, cond, List, get_or, eqb, leb, Option, MatchOption}
use Rattle.bounded.specs.Search.{any}
use Rattle.std.specs.Int.Bits.{bit_and, bit_or, bit_xor}
use Rattle.std.specs.Int.Count.{count_trailing_zeros}

-- t is a member of x.
unfoldable pub bit : ℕ → ℕ → Bool
bit x t = eqb (x / 2 ^ t % 2) 1

-- The members of x and those of y.
unfoldable pub union : ℕ → ℕ → ℕ
union x y = bit_or x y

-- The members of x that y has too.
unfoldable pub intersection : ℕ → ℕ → ℕ
intersection x y = bit_and x y

-- The members of x that y does not have.
unfoldable pub difference : ℕ → ℕ → ℕ
difference x y = bit_xor x (bit_and x y)

-- The set of t alone.
unfoldable pub single : ℕ → ℕ
single t = 2 ^ t

-- The lowest member of x, and 64 where x has none.
unfoldable pub lowest : ℕ → ℕ
lowest x = count_trailing_zeros 64 x

-- x without its member t.
unfoldable pub without : ℕ → ℕ → ℕ
without x t = x - 2 ^ t

-- x has a member at n or above.
unfoldable pub exceeds : ℕ → ℕ → Bool
exceeds n x = leb (2 ^ n) x

-- The set of the numbers below n that pass the test.
unfoldable pub mask : ℕ → (ℕ → Bool) → ℕ
mask zero test = 0
mask (suc n) test = mask n test + cond (test n) (2 ^ n) 0

-- The members of x are exactly the numbers that pass the test.
abbrev pub Represents : ℕ → (ℕ → Bool) → Type 0
Represents x test = (t : ℕ) → bit x t ≡ test t

-- The same for each of the first n words of a list.
abbrev pub Rows : ℕ → List ℕ → (ℕ → ℕ → Bool) → Type 0
Rows n xs test = (s : ℕ) → s < n → Represents (get_or xs s 0) (test s)

-- c is in the word of the list at some member of x below n.
unfoldable pub gathered : ℕ → ℕ → List ℕ → ℕ → Bool
gathered n x table c = any n (λ t. bit x t && bit (get_or table t 0) c)

-- The next member of `rest`, its lowest, and what is left behind it. There is none where rest is empty.
abbrev pub NextMember : ℕ → Option ℕ → ℕ → Type 0
NextMember rest next left =
    MatchOption next ((rest ≡ 0) × (left ≡ 0))
    (λ t. (rest ≡ 0 → ⊥) × (t ≡ lowest rest) × (left ≡ without rest (lowest rest)))
