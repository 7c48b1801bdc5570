-- The laws of lines laid over a list.
use Prim.Native.Nat.{ℕ}
use mathlib.Core.List.{List, ◌++◌}
use Rattle.words.specs.Laid.{Laid}
use Rattle.words.proofs.LaidLaws.{then}
use Rattle.text.specs.Decimal.{decimal}
use Rattle.restrictive.specs.Verdict.{Violation, refused, breaks}
use Rattle.report.specs.Line.{refused_text, rule_text, event_text, from_text, to_text, other_text, line_end, line}

module _ {d₀ d₁ d₂ : List ℕ} {a₁ a₂ : ℕ} where
  pub laid_refusal : (k : ℕ) → Laid d₀ 0 (refused_text ++ decimal k) d₁ a₁ → Laid d₁ a₁ line_end d₂ a₂
      → Laid d₀ 0 (line (refused k)) d₂ a₂
  unfolding line
  laid_refusal k number end = then number end

  pub laid_violation : (v : Violation) {d₃ d₄ d₅ d₆ : List ℕ} {a₃ a₄ a₅ a₆ : ℕ}
      → Laid d₀ 0 (rule_text ++ decimal v.rule) d₁ a₁
      → Laid d₁ a₁ (event_text ++ decimal v.event) d₂ a₂
      → Laid d₂ a₂ (from_text ++ decimal v.s) d₃ a₃
      → Laid d₃ a₃ (to_text ++ decimal v.t) d₄ a₄
      → Laid d₄ a₄ (other_text ++ decimal v.u) d₅ a₅
      → Laid d₅ a₅ line_end d₆ a₆
      → Laid d₀ 0 (line (breaks v)) d₆ a₆
  unfolding line
  laid_violation v rule event from to other end = then (then (then (then (then rule event) from) to) other) end
