-- The operations of a replay script: a byte that says which, its numbers as little-endian u32, a record's bytes.
use Rattle.std.specs.Prelude.{ℕ, ◌+◌, cond, List, [], ◌∷◌, ltb, eqb, length, get_or, take, drop}
use Rattle.words.specs.LittleEndian.{byte, number}

-- The operation at the start of some bytes: a call; none, where no byte is left; one that is cut off; an unknown one.
pub data Operation : Type 0 where
  clear : Operation
  load : List ℕ → Operation
  hookup : ℕ → ℕ → Operation
  count : Operation
  part : ℕ → Operation
  ended truncated unknown : Operation

-- Its bytes before a record's: 0 is Clear, 1 Load with the record's length, 2 Hookup with i, j, 3 Count, 4 Part with i.
abbrev pub sizes : List ℕ
sizes = 1 ∷ 5 ∷ 9 ∷ 1 ∷ 5 ∷ []

-- Load's record stands behind its length; truncated, where it runs past the end.
unfoldable pub load_of : List ℕ → Operation
load_of s = cond (ltb (length s) (5 + number 4 s 1)) truncated (load (take (number 4 s 1) (drop 5 s)))

-- The call with so many a byte.
unfoldable pub call : ℕ → List ℕ → Operation
call b s =
    cond (eqb b 0) clear
    (cond (eqb b 1) (load_of s)
    (cond (eqb b 2) (hookup (number 4 s 1) (number 4 s 5))
    (cond (eqb b 3) count (part (number 4 s 1)))))

unfoldable pub operation : List ℕ → Operation
operation s =
    cond (ltb (length s) 1) ended
    (cond (ltb 4 (byte s 0)) unknown
    (cond (ltb (length s) (get_or sizes (byte s 0) 0)) truncated (call (byte s 0) s)))

-- How many bytes an operation takes: none, where the bytes end or stop there.
unfoldable pub size : Operation → ℕ
size clear = 1
size (load r) = 5 + length r
size (hookup i j) = 9
size count = 1
size (part i) = 5
size ended = 0
size truncated = 0
size unknown = 0
