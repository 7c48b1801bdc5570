-- The line that is printed for a verdict, as bytes of ASCII: "pass", "refused N", or "rule R event E from S to T other U", and a line end.
-- The numbers are decimal.
use Rattle.std.specs.Prelude.{ℕ, List, [], ◌∷◌, ◌++◌, take}
use Rattle.text.specs.Decimal.{decimal}
use Rattle.restrictive.specs.Verdict.{Verdict, pass, refused, breaks, verdict}

-- "pass"
abbrev pub pass_text : List ℕ
pass_text = 112 ∷ 97 ∷ 115 ∷ 115 ∷ []

-- "refused "
abbrev pub refused_text : List ℕ
refused_text = 114 ∷ 101 ∷ 102 ∷ 117 ∷ 115 ∷ 101 ∷ 100 ∷ 32 ∷ []

-- "rule "
abbrev pub rule_text : List ℕ
rule_text = 114 ∷ 117 ∷ 108 ∷ 101 ∷ 32 ∷ []

-- " event "
abbrev pub event_text : List ℕ
event_text = 32 ∷ 101 ∷ 118 ∷ 101 ∷ 110 ∷ 116 ∷ 32 ∷ []

-- " from "
abbrev pub from_text : List ℕ
from_text = 32 ∷ 102 ∷ 114 ∷ 111 ∷ 109 ∷ 32 ∷ []

-- " to "
abbrev pub to_text : List ℕ
to_text = 32 ∷ 116 ∷ 111 ∷ 32 ∷ []

-- " other "
abbrev pub other_text : List ℕ
other_text = 32 ∷ 111 ∷ 116 ∷ 104 ∷ 101 ∷ 114 ∷ 32 ∷ []

-- The end of the line.
abbrev pub line_end : List ℕ
line_end = 10 ∷ []

unfoldable pub line : Verdict → List ℕ
line pass = pass_text ++ line_end
line (refused k) = refused_text ++ decimal k ++ line_end
line (breaks v) =
    (rule_text ++ decimal v.rule)
    ++ (event_text ++ decimal v.event)
    ++ (from_text ++ decimal v.s)
    ++ (to_text ++ decimal v.t)
    ++ (other_text ++ decimal v.u)
    ++ line_end

-- An input is judged by its first 65,536 bytes.
abbrev pub judged_bytes : ℕ
judged_bytes = 65536

-- The line of an input.
unfoldable pub line_of : List ℕ → List ℕ
line_of input = line (verdict (take judged_bytes input))
