-- Some lines and turns, computed.
use Rattle.std.specs.Prelude.{◌≡◌, refl, [], ◌∷◌}
use Rattle.words.specs.Laid.{over}
use Rattle.text.specs.Decimal.{digits, decimal}
use Rattle.text.specs.Hex.{hex}
use Rattle.report.specs.Line.{line}
use Rattle.script.specs.Operation.{clear, ended, truncated, unknown}
use Rattle.store.specs.Answer.{gives, refused, clash}
use Rattle.store.specs.Calls as shelf
use Rattle.transcript.specs.Lines.{part_text, count_text, answer_line, shown, part_line, shelf_line}
use Rattle.transcript.specs.Turn.{turn}

-- "0"
pub clear_is : answer_line [] (gives 0) ≡ 48 ∷ 10 ∷ []
unfolding answer_line decimal digits
clear_is = refl

-- "part 12"
pub part_is : answer_line part_text (gives 12) ≡ 112 ∷ 97 ∷ 114 ∷ 116 ∷ 32 ∷ 49 ∷ 50 ∷ 10 ∷ []
unfolding answer_line decimal digits
part_is = refl

-- "count 3"
pub count_is : answer_line count_text (gives 3) ≡ 99 ∷ 111 ∷ 117 ∷ 110 ∷ 116 ∷ 32 ∷ 51 ∷ 10 ∷ []
unfolding answer_line decimal digits
count_is = refl

-- "refused 15"
pub refused_is : answer_line part_text (refused 15) ≡ 114 ∷ 101 ∷ 102 ∷ 117 ∷ 115 ∷ 101 ∷ 100 ∷ 32 ∷ 49 ∷ 53 ∷ 10 ∷ []
unfolding answer_line line decimal digits
refused_is = refl

-- "refused 10 identifier 7"
pub clash_is : answer_line part_text (clash 7)
    ≡ 114 ∷ 101 ∷ 102 ∷ 117 ∷ 115 ∷ 101 ∷ 100 ∷ 32 ∷ 49 ∷ 48 ∷ 32 ∷ 105 ∷ 100 ∷ 101 ∷ 110 ∷ 116 ∷ 105 ∷ 102 ∷
    105 ∷ 101 ∷ 114 ∷ 32 ∷ 55 ∷ 10 ∷ []
unfolding answer_line decimal digits
clash_is = refl

-- "part bytes 0": no space behind the number
pub no_bytes : part_line [] ≡ 112 ∷ 97 ∷ 114 ∷ 116 ∷ 32 ∷ 98 ∷ 121 ∷ 116 ∷ 101 ∷ 115 ∷ 32 ∷ 48 ∷ 10 ∷ []
unfolding part_line shown decimal digits
no_bytes = refl

-- "part bytes 2 00ff"
pub two_bytes : part_line (0 ∷ 255 ∷ [])
    ≡ 112 ∷ 97 ∷ 114 ∷ 116 ∷ 32 ∷ 98 ∷ 121 ∷ 116 ∷ 101 ∷ 115 ∷ 32 ∷ 50 ∷ 32 ∷ 48 ∷ 48 ∷ 102 ∷ 102 ∷ 10 ∷ []
unfolding part_line shown hex decimal digits
two_bytes = refl

-- "shelf aa05"
pub shelf_is : shelf_line (170 ∷ 5 ∷ []) ≡ 115 ∷ 104 ∷ 101 ∷ 108 ∷ 102 ∷ 32 ∷ 97 ∷ 97 ∷ 48 ∷ 53 ∷ 10 ∷ []
unfolding shelf_line hex
shelf_is = refl

-- "refused 12" on a shelf of one byte, which stays; six zeros on one of seven
pub clear_refused : turn clear (7 ∷ [])
    ≡ record { line = 114 ∷ 101 ∷ 102 ∷ 117 ∷ 115 ∷ 101 ∷ 100 ∷ 32 ∷ 49 ∷ 50 ∷ 10 ∷ []; shelf = 7 ∷ [] }
unfolding turn shelf.clear answer_line line decimal digits
clear_refused = refl

pub clear_turn : turn clear (9 ∷ 8 ∷ 7 ∷ 6 ∷ 5 ∷ 4 ∷ 3 ∷ [])
    ≡ record { line = 48 ∷ 10 ∷ []; shelf = 0 ∷ 0 ∷ 0 ∷ 0 ∷ 0 ∷ 0 ∷ 3 ∷ [] }
unfolding turn shelf.clear shelf.end_bytes over answer_line decimal digits
clear_turn = refl

-- "truncated" and "unknown"; at the end nothing
pub truncated_turn : turn truncated (7 ∷ [])
    ≡ record { line = 116 ∷ 114 ∷ 117 ∷ 110 ∷ 99 ∷ 97 ∷ 116 ∷ 101 ∷ 100 ∷ 10 ∷ []; shelf = 7 ∷ [] }
unfolding turn
truncated_turn = refl

pub unknown_turn : turn unknown (7 ∷ [])
    ≡ record { line = 117 ∷ 110 ∷ 107 ∷ 110 ∷ 111 ∷ 119 ∷ 110 ∷ 10 ∷ []; shelf = 7 ∷ [] }
unfolding turn
unknown_turn = refl

pub ended_turn : turn ended (7 ∷ []) ≡ record { line = []; shelf = 7 ∷ [] }
unfolding turn
ended_turn = refl
