-- The lines of some verdicts, computed: each form, and numbers of one digit and of several.
use Rattle.std.specs.Prelude.{◌≡◌, refl, [], ◌∷◌, ◌++◌}
use Rattle.restrictive.specs.Verdict.{pass, refused, breaks}
use Rattle.text.specs.Decimal.{digits, decimal}
use Rattle.report.specs.Line.{rule_text, event_text, from_text, to_text, other_text, line_end, line}

-- "pass"
pub pass_line : line pass ≡ 112 ∷ 97 ∷ 115 ∷ 115 ∷ 10 ∷ []
unfolding line
pass_line = refl

-- "refused 7"
pub refused_line : line (refused 7) ≡ 114 ∷ 101 ∷ 102 ∷ 117 ∷ 115 ∷ 101 ∷ 100 ∷ 32 ∷ 55 ∷ 10 ∷ []
unfolding line decimal digits
refused_line = refl

-- "refused 16"
pub mislabelled_line : line (refused 16) ≡ 114 ∷ 101 ∷ 102 ∷ 117 ∷ 115 ∷ 101 ∷ 100 ∷ 32 ∷ 49 ∷ 54 ∷ 10 ∷ []
unfolding line decimal digits
mislabelled_line = refl

-- "rule 2 event 1 from 0 to 1 other 0"
pub rule_line : line (breaks (record { level = 0x40; rule = 2; event = 1; s = 0; t = 1; u = 0 }))
    ≡ rule_text ++ (50 ∷ []) ++ event_text ++ (49 ∷ []) ++ from_text ++ (48 ∷ []) ++ to_text ++ (49 ∷ []) ++ other_text ++ (48 ∷ []) ++ line_end
unfolding line decimal digits
rule_line = refl

-- "rule 5 event 65535 from 7 to 10 other 0", byte by byte
pub long_line : line (breaks (record { level = 0; rule = 5; event = 65535; s = 7; t = 10; u = 0 }))
    ≡ (114 ∷ 117 ∷ 108 ∷ 101 ∷ 32 ∷ 53 ∷ [])
    ++ (32 ∷ 101 ∷ 118 ∷ 101 ∷ 110 ∷ 116 ∷ 32 ∷ 54 ∷ 53 ∷ 53 ∷ 51 ∷ 53 ∷ [])
    ++ (32 ∷ 102 ∷ 114 ∷ 111 ∷ 109 ∷ 32 ∷ 55 ∷ [])
    ++ (32 ∷ 116 ∷ 111 ∷ 32 ∷ 49 ∷ 48 ∷ [])
    ++ (32 ∷ 111 ∷ 116 ∷ 104 ∷ 101 ∷ 114 ∷ 32 ∷ 48 ∷ 10 ∷ [])
unfolding line decimal digits
long_line = refl
