-- Some scripts' lines, computed.
use Rattle.std.specs.Prelude.{◌≡◌, refl, [], ◌∷◌, ◌++◌}
use Rattle.words.specs.LittleEndian.{number}
use Rattle.words.specs.Laid.{over}
use Rattle.text.specs.Decimal.{digits, decimal}
use Rattle.script.specs.Operation.{operation, call, size}
use Rattle.report.specs.Line.{line_end}
use Rattle.store.specs.Calls as shelf
use Rattle.transcript.specs.Lines.{answer_line, shelf_line, truncated_text, unknown_text}
use Rattle.transcript.specs.Turn.{turn}
use Rattle.replay.specs.Transcript.{capacity_text, turns, all_turns, transcript}

-- "truncated" for three bytes, and "capacity" for a shelf of 262,145
pub short_script : transcript (1 ∷ 0 ∷ 0 ∷ []) ≡ truncated_text ++ line_end
unfolding transcript
short_script = refl

pub large_shelf : transcript (1 ∷ 0 ∷ 4 ∷ 0 ∷ []) ≡ capacity_text ++ line_end
unfolding transcript number
large_shelf = refl

-- No operation: the line of the shelf alone
pub no_operation : transcript (2 ∷ 0 ∷ 0 ∷ 0 ∷ []) ≡ shelf_line (0xAA ∷ 0xAA ∷ [])
unfolding transcript all_turns turns number operation size turn
no_operation = refl

-- "0" for Clear, then "unknown", and the shelf that Clear left
pub two_operations : transcript (7 ∷ 0 ∷ 0 ∷ 0 ∷ 0 ∷ 5 ∷ 3 ∷ [])
    ≡ ((48 ∷ 10 ∷ []) ++ unknown_text ++ line_end) ++ shelf_line (0 ∷ 0 ∷ 0 ∷ 0 ∷ 0 ∷ 0 ∷ 0xAA ∷ [])
unfolding transcript all_turns turns number operation call size turn
    shelf.clear shelf.end_bytes over answer_line decimal digits
two_operations = refl
