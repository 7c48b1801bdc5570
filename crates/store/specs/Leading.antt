-- The records at the start of some bytes, one behind the other up to what is none: words that the functions use among
-- themselves.
use Rattle.std.specs.Prelude.{ℕ, zero, suc, Bool, true, false, List, [], ◌∷◌, length, take, drop, Option, Some, None}
use Rattle.store.specs.Walk.{Front, end_record, record_of, neither, front}

-- The end record stands there.
abbrev pub ends_there : Front → Bool
ends_there end_record = true
ends_there (record_of n) = false
ends_there neither = false

-- How many bytes the record has that stands there, if one does.
abbrev pub size_there : Front → Option ℕ
size_there end_record = None
size_there (record_of n) = Some n
size_there neither = None

-- The records up to the first place where none stands. At most so many are looked at.
unfoldable pub leading_at_most : ℕ → List ℕ → List (List ℕ)
leading_at_most zero s = []
leading_at_most (suc k) s =
    elim (front s) [
      | end_record ↦ []
      | neither ↦ []
      | record_of n ↦ take n s ∷ leading_at_most k (drop n s)
    ]

-- Each record has a byte, so that there are no more records than bytes.
unfoldable pub leading : List ℕ → List (List ℕ)
leading s = leading_at_most (suc (length s)) s
