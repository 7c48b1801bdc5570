-- Bits of a row at n or above: those of a union of rows, and none where n is 64.
use Prim.Native.Nat.{ℕ, ◌+◌, ◌^◌, ◌<◌}
use mathlib.Core.Path.{◌≡◌, sym, ap, ◌∙◌}
use mathlib.Core.Bool.{Bool, false, ◌||◌}
use mathlib.Core.List.{List}
use borrow.Author.Tests.{lt-leb}
use Rattle.bounded.specs.Search.{any}
use Rattle.bounded.proofs.Search.{any_next, any_fails}
use Rattle.words.specs.LittleEndian.{Bytes}
use Rattle.words.specs.Sets.{union, exceeds}
use Rattle.words.proofs.LittleEndian.{number_lt}
use Rattle.words.proofs.Sets.{bit_zero, members_within, exceeds-union}
use Rattle.part.specs.Format.{max_states}
use Rattle.part.specs.Record.{states, row}
use Rattle.screening.specs.Rejections.{strays_at, row_strays, stray_bit}

-- ---- the loop that unites the rows of an event: those of the states below s

module _ (b : List ℕ) (i : ℕ) where
  abbrev pub United : ℕ → ℕ → Type 0
  United s found = exceeds (states b) found ≡ any s (strays_at b i)

  pub united_none : United 0 0
  unfolding any
  united_none = members_within _ 0 (λ t l. bit_zero t)

  pub united_next : (s found x : ℕ) → United s found → x ≡ row b i s → United (s + 1) (union found x)
  unfolding strays_at
  united_next s found x e q =
      exceeds-union _ _ x
      ∙ ap (λ (p : Bool). p || exceeds (states b) x) e
      ∙ ap (λ (y : ℕ). any s (strays_at b i) || exceeds (states b) y) q
      ∙ sym (any_next _ s)

  pub united_done : (n s found : ℕ) → n ≡ states b → s ≡ n → United s found → exceeds n found ≡ row_strays b i
  unfolding row_strays
  united_done n s found p q e = cc

pub ruleset uniting = (united_none, united_next, united_done)

-- ---- the most states: a row has 8 bytes, so no bit at 64 or above

row_fits : (b : List ℕ) (i s : ℕ) → Bytes b → row b i s < 2 ^ 64
unfolding row
row_fits b i s h = number_lt 8 b _ h

pub no_stray : (b : List ℕ) → Bytes b → states b ≡ max_states → stray_bit b ≡ false
unfolding stray_bit row_strays strays_at exceeds
no_stray b h e = any_fails _ _ (λ i l. any_fails _ _ (λ s k. rw e (lt-leb _ _ (row_fits b i s h))))
