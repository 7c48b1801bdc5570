-- One operation of a replay: the line that it prints, and the shelf after it.
use Rattle.std.specs.Prelude.{ℕ, List, [], ◌++◌}
use Rattle.script.specs.Operation as script
use Rattle.script.specs.Operation.{Operation}
use Rattle.report.specs.Line.{line_end}
use Rattle.store.specs.Reading.{count, part}
use Rattle.store.specs.Calls.{Left, clear, load, hookup}
use Rattle.transcript.specs.Lines.{part_text, count_text, answer_line, part_line, truncated_text, unknown_text}

-- The line of an operation, and the shelf after it.
pub record Turn : Type 0 where
  pub line : List ℕ
  pub shelf : List ℕ

-- A call prints its answer and leaves the shelf as it says.
abbrev pub called : List ℕ → Left → Turn
called word l = record { line = answer_line word l.answer; shelf = l.shelf }

-- Everything else leaves the shelf as it was.
abbrev pub told : List ℕ → List ℕ → Turn
told line s = record { line = line; shelf = s }

-- Clear's number stands alone, that of Load and Hookup behind "part ", Count's behind "count ". At the end of the
-- script there is no line.
unfoldable pub turn : Operation → List ℕ → Turn
turn script.clear s = called [] (clear s)
turn (script.load r) s = called part_text (load s r)
turn (script.hookup i j) s = called part_text (hookup s i j)
turn script.count s = told (answer_line count_text (count s)) s
turn (script.part i) s = told (part_line (part s i)) s
turn script.ended s = told [] s
turn script.truncated s = told (truncated_text ++ line_end) s
turn script.unknown s = told (unknown_text ++ line_end) s
