-- The numbers of answers are those of what they mean.
use Prim.Native.Nat.{ℕ}
use mathlib.Core.Path.{◌≡◌, sym, ap, ◌∙◌}
use mathlib.Core.List.{List}

-- The number of an answer that a call gives as r, which is s, is that of what it means.
pub as_number : {R A : Type 0} (meaning : R → A) (number : A → ℕ) {r s : R} {answer : A} → r ≡ s → meaning r ≡ answer
    → number (meaning s) ≡ number answer
as_number meaning number e same = ap number (sym (ap meaning e) ∙ same)

-- What a call said in its own words, in those of the definition: it answered r, which is s.
pub told : {R A : Type 0} (meaning : R → A) (number : A → ℕ) (after : A → List ℕ → List ℕ → List ℕ) {r s : R}
    {answer : A} {k : ℕ} {now : List ℕ} (bytes out : List ℕ) → r ≡ s
    → (meaning r ≡ answer) × (now ≡ after (meaning r) bytes out) → k ≡ number (meaning s)
    → (k ≡ number answer) × (now ≡ after answer bytes out)
told meaning number after bytes out e j p =
    let same = j.0 in (rw (← same, e) p, rw (← same) j.1)
