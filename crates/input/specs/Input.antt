-- What reading the input leaves.
use Rattle.std.specs.Prelude.{ℕ, ◌≤◌, ◌≡◌, List, length, drop, Result, IfOk}

-- Where a read did not fail, it brought at most so many bytes.
abbrev pub Within : {E : Type 0} → Result ℕ E → ℕ → Type 0
Within r most = IfOk r (λ n. n ≤ most)

-- The first n bytes may be new: they lie within the bytes that were lent, and those behind them are as they were.
abbrev pub ChangesFirst : ℕ → List ℕ → List ℕ → Type 0
ChangesFirst n before after = (n ≤ length before) × (drop n after ≡ drop n before)

-- Where n bytes were read, they lie within the bytes that were lent, and those behind them are as they were. Free are
-- the n bytes themselves, which the stream gives, and all bytes where a read failed.
abbrev pub Brought : {E : Type 0} → Result ℕ E → List ℕ → List ℕ → Type 0
Brought r before after = IfOk r (λ n. ChangesFirst n before after)
