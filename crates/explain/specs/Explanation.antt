-- The verdict on a part in numbers, and what the call that writes them answers (requests f, k and l).
use Rattle.std.specs.Prelude.{ℕ, Bool, cond, List, [], ◌∷◌, ltb, length}
use Rattle.words.specs.Laid.{over}
use Rattle.words.specs.LittleEndian.{as_words}
use Rattle.restrictive.specs.Verdict.{Verdict, pass, refused, breaks, verdict, taken, told_limit}

-- The eight numbers of a verdict. A break: rule, event, s, t, u; how many states were taken up; the level of the observer concerned; 0. A
-- pass: five zeros; how many were taken up; 0; the limit. A refusal has none.
unfoldable pub numbers : Verdict → ℕ → ℕ → List ℕ
numbers pass taken limit = 0 ∷ 0 ∷ 0 ∷ 0 ∷ 0 ∷ taken ∷ 0 ∷ limit ∷ []
numbers (refused k) taken limit = []
numbers (breaks v) taken limit = v.rule ∷ v.event ∷ v.s ∷ v.t ∷ v.u ∷ taken ∷ v.level ∷ 0 ∷ []

-- What the call writes: eight bytes for each.
unfoldable pub explanation : List ℕ → List ℕ
explanation b = as_words (numbers (verdict b) (taken b) (told_limit b))

-- It does not fit into a buffer of so many bytes.
unfoldable pub no_room : List ℕ → ℕ → Bool
no_room b room = ltb room (length (explanation b))

-- The verdict as it is answered: 15 where the explanation does not fit.
unfoldable pub explained : List ℕ → ℕ → Verdict
explained b room = cond (no_room b room) (refused 15) (verdict b)

-- The buffer after the call: the explanation from its start on, where it fits.
unfoldable pub buffer_after : List ℕ → List ℕ → List ℕ
buffer_after b out = cond (no_room b (length out)) out (over out 0 (explanation b))
