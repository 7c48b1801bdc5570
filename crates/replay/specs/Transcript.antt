-- What a replay writes for a script.
use Rattle.std.specs.Prelude.{ℕ, zero, suc, cond, ltb, eqb, List, [], ◌∷◌, ◌++◌, length, drop, replicate}
use Rattle.words.specs.LittleEndian.{number}
use Rattle.script.specs.Operation.{operation, size}
use Rattle.report.specs.Line.{line_end}
use Rattle.transcript.specs.Lines.{shelf_line, truncated_text}
use Rattle.transcript.specs.Turn.{Turn, turn}

-- The longest script, and the largest shelf.
abbrev pub most : ℕ
most = 262144

-- "script"
abbrev pub script_text : List ℕ
script_text = 115 ∷ 99 ∷ 114 ∷ 105 ∷ 112 ∷ 116 ∷ []

-- "capacity"
abbrev pub capacity_text : List ℕ
capacity_text = 99 ∷ 97 ∷ 112 ∷ 97 ∷ 99 ∷ 105 ∷ 116 ∷ 121 ∷ []

-- A turn, and what follows it on the shelf that it leaves.
abbrev pub then : Turn → (List ℕ → Turn) → Turn
then t rest = record { line = t.line ++ (rest t.shelf).line; shelf = (rest t.shelf).shelf }

-- The operations at the start of some bytes, n at most: their lines one behind the other, and the shelf after them.
-- The one that takes no byte is the last.
unfoldable pub turns : ℕ → List ℕ → List ℕ → Turn
turns zero s shelf = record { line = []; shelf = shelf }
turns (suc n) s shelf =
    cond (eqb (size (operation s)) 0) (turn (operation s) shelf)
    (then (turn (operation s) shelf) (turns n (drop (size (operation s)) s)))

-- All of them: each but the last takes a byte or more.
unfoldable pub all_turns : List ℕ → List ℕ → Turn
all_turns s shelf = turns (suc (length s)) s shelf

-- The lines of the operations, and the line of the shelf after them.
abbrev pub with_shelf : Turn → List ℕ
with_shelf t = t.line ++ shelf_line t.shelf

-- A script's first four bytes say how large the shelf is, of bytes 0xAA; behind them stand the operations. A script
-- that is too long or too short, or asks for too large a shelf, has a line that says so.
unfoldable pub transcript : List ℕ → List ℕ
transcript script =
    cond (ltb most (length script)) (script_text ++ line_end)
    (cond (ltb (length script) 4) (truncated_text ++ line_end)
    (cond (ltb most (number 4 script 0)) (capacity_text ++ line_end)
    (with_shelf (all_turns (drop 4 script) (replicate (number 4 script 0) 0xAA)))))
