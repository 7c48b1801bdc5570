-- The lines of a replay, as bytes of ASCII: one for each call, and one for the shelf at the end.
use Rattle.std.specs.Prelude.{ℕ, List, [], ◌∷◌, ◌++◌, length}
use Rattle.text.specs.Decimal.{decimal}
use Rattle.text.specs.Hex.{hex}
use Rattle.restrictive.specs.Verdict as check
use Rattle.report.specs.Line.{line_end, line}
use Rattle.store.specs.Answer.{Answer, gives, refused, clash, breaks}

-- "part "
abbrev pub part_text : List ℕ
part_text = 112 ∷ 97 ∷ 114 ∷ 116 ∷ 32 ∷ []

-- "count "
abbrev pub count_text : List ℕ
count_text = 99 ∷ 111 ∷ 117 ∷ 110 ∷ 116 ∷ 32 ∷ []

-- "refused 10 identifier "
abbrev pub clash_text : List ℕ
clash_text =
    114 ∷ 101 ∷ 102 ∷ 117 ∷ 115 ∷ 101 ∷ 100 ∷ 32 ∷ 49 ∷ 48 ∷ 32 ∷
    105 ∷ 100 ∷ 101 ∷ 110 ∷ 116 ∷ 105 ∷ 102 ∷ 105 ∷ 101 ∷ 114 ∷ 32 ∷ []

-- A word stands before the number that an answer gives. Refusals and breaks are worded as they are for a verdict.
unfoldable pub answer_line : List ℕ → Answer → List ℕ
answer_line word (gives n) = word ++ decimal n ++ line_end
answer_line word (refused k) = line (check.refused k)
answer_line word (clash e) = clash_text ++ decimal e ++ line_end
answer_line word (breaks v) = line (check.breaks v)

-- "part bytes "
abbrev pub part_bytes_text : List ℕ
part_bytes_text = 112 ∷ 97 ∷ 114 ∷ 116 ∷ 32 ∷ 98 ∷ 121 ∷ 116 ∷ 101 ∷ 115 ∷ 32 ∷ []

-- A space and the bytes, where there are any.
unfoldable pub shown : List ℕ → List ℕ
shown [] = []
shown (b ∷ bytes) = 32 ∷ hex (b ∷ bytes)

-- How many bytes Part gives, and the bytes.
unfoldable pub part_line : List ℕ → List ℕ
part_line bytes = (part_bytes_text ++ decimal (length bytes)) ++ shown bytes ++ line_end

-- "shelf "
abbrev pub shelf_text : List ℕ
shelf_text = 115 ∷ 104 ∷ 101 ∷ 108 ∷ 102 ∷ 32 ∷ []

-- All bytes of the shelf.
unfoldable pub shelf_line : List ℕ → List ℕ
shelf_line bytes = shelf_text ++ hex bytes ++ line_end

-- "truncated"
abbrev pub truncated_text : List ℕ
truncated_text = 116 ∷ 114 ∷ 117 ∷ 110 ∷ 99 ∷ 97 ∷ 116 ∷ 101 ∷ 100 ∷ []

-- "unknown"
abbrev pub unknown_text : List ℕ
unknown_text = 117 ∷ 110 ∷ 107 ∷ 110 ∷ 111 ∷ 119 ∷ 110 ∷ []
