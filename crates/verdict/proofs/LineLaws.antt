-- The line of an input's first bytes.
use Rattle.std.proofs.Common.{◌≡◌, List, ℕ, take, Option, Some, None, Result, Ok, Err, OnOk, IfSome, ap, subst, le_refl}
use Rattle.std.proofs.Math.Seq.{take-take}
use Rattle.std.specs.Io.KnownBytes.{Appends}
use Rattle.restrictive.specs.Verdict.{verdict}
use Rattle.report.specs.Line.{judged_bytes, line, line_of}

-- An input has the line of its bytes that are judged.
pub judged : (input : List ℕ) → line_of (take judged_bytes input) ≡ line_of input
unfolding line_of
judged input = ap (λ (s : List ℕ). line (verdict s)) (take-take judged_bytes judged_bytes input (le_refl judged_bytes))

-- The same of what was written for an input.
pub judged_whole : {T E : Type 0} (r : Result T E) (known before after : Option (List ℕ))
    → OnOk r (IfSome known (λ input. Appends before after (line_of (take judged_bytes input))))
    → OnOk r (IfSome known (λ input. Appends before after (line_of input)))
judged_whole (Err e) known before after h = tt
judged_whole (Ok x) None before after h = tt
judged_whole (Ok x) (Some input) before after h = subst (Appends before after) (judged input) h
