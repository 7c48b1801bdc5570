-- The starred lines of document 01, "Examples", as one table and one theorem.
use Rattle.std.specs.Prelude.{ℕ, Bool, true, not, ◌&&◌, List, [], ◌∷◌, T, length, set}
use Rattle.level.specs.Level.{low}
use Rattle.part.specs.Format.{max_record}
use Rattle.part.specs.Samples.{P, Q, Z, T as sample-T}
use Rattle.restrictive.specs.Verdict.{Verdict, pass}
use Rattle.restrictive.specs.Judged.{judged, same, broken_at}
use Rattle.composite.specs.Joining.{clash, Joining, length_is, stopped}
use Rattle.composite.specs.Computed.{hooked, answered, same_bytes, same_answer}

-- A line: a level is low, or high, for an observer; a record has a verdict; two records join to a record; two records do not join.
pub data Line : Type 0 where
  is_low is_high : ℕ → ℕ → Line
  check : List ℕ → Verdict → Line
  join : List ℕ → List ℕ → List ℕ → Line
  no_join : List ℕ → List ℕ → Joining → Line

-- A buffer that has room for every record.
abbrev room : ℕ
room = max_record

unfoldable holds : Line → Bool
unfolding judged hooked answered
holds (is_low l observer) = low observer l
holds (is_high l observer) = not (low observer l)
holds (check b v) = same (judged b) v
holds (join a b c) = same_answer (answered a b room) (length_is (length c)) && same_bytes (hooked a b) c
holds (no_join a b answer) = same_answer (answered a b room) answer

unfoldable pub all_hold : List Line → Bool
unfolding holds
all_hold [] = true
all_hold (l ∷ ls) = holds l && all_hold ls

abbrev pub table : List Line
table =
    check P pass
    ∷ check (set P 11 1) (broken_at 2 1 0 1 0)
    ∷ check (set P 28 0) (broken_at 1 1 1 0 0)
    ∷ check (set P 44 0) (broken_at 5 2 0 0 1)
    ∷ check (sample-T 1 0x40 4 0 0) (broken_at 4 1 0 2 1)
    ∷ check (sample-T 0 0 4 2 4) (broken_at 3 1 0 2 1)
    ∷ join P Q (set P 18 2)
    ∷ no_join P P (stopped (clash 1))
    ∷ join Z Z Z
    ∷ is_low 0x81 0x81
    ∷ is_high 0x41 0x80
    ∷ []

pub starred : T (all_hold table)
unfolding all_hold
starred = tt
