-- The answers of a list of calls as bytes: eight little-endian u64 for each.
use Rattle.std.specs.Prelude.{ℕ, List, [], ◌∷◌, ◌++◌}
use Rattle.words.specs.LittleEndian.{as_words}
use Rattle.store.specs.Answer.{Answer, gives, refused, clash, breaks}

-- 0 and a number; 1 and a refusal; 2 and the identifier of refusal 10; 3 and the values of a break, behind which stands the level of the
-- observer concerned. Zeros fill up.
unfoldable pub numbers : Answer → List ℕ
numbers (gives n) = 0 ∷ n ∷ 0 ∷ 0 ∷ 0 ∷ 0 ∷ 0 ∷ 0 ∷ []
numbers (refused k) = 1 ∷ k ∷ 0 ∷ 0 ∷ 0 ∷ 0 ∷ 0 ∷ 0 ∷ []
numbers (clash e) = 2 ∷ e ∷ 0 ∷ 0 ∷ 0 ∷ 0 ∷ 0 ∷ 0 ∷ []
numbers (breaks v) = 3 ∷ v.rule ∷ v.event ∷ v.s ∷ v.t ∷ v.u ∷ v.level ∷ 0 ∷ []

unfoldable pub slots : List Answer → List ℕ
slots [] = []
slots (a ∷ rest) = as_words (numbers a) ++ slots rest
