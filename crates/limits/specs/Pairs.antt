-- The pairs of parts at the limits of a record, and the line of each pair.
use Rattle.std.specs.Prelude.{ℕ, zero, suc, ◌+◌, ◌*◌, ◌-◌, cond, eqb, List, [], ◌∷◌, ◌++◌, length, set, replicate, decimal, codes}
use Rattle.words.specs.LittleEndian.{digits}
use Rattle.words.specs.Laid.{over}
use Rattle.part.specs.Format.{header, single_kind}
use Rattle.composite.specs.Joining.{Joining, length_is, unfit, stopped, refusal, clash, joining}

-- Over some bytes: the length and the kind of a record, its states and its events. Classes, entries and rows are left
-- as they are.
unfoldable pub part_over : List ℕ → ℕ → ℕ → List ℕ
part_over out states events =
    set (set (over (over out 0 (digits 4 (length out - header))) 4 (digits 2 single_kind)) 7 states) 9 events

-- The first i low inputs of a part of one state that has m: the identifier of each, and its row, by which the state
-- stays.
unfoldable pub inputs_over : List ℕ → ℕ → ℕ → ℕ → List ℕ
inputs_over out first m zero = out
inputs_over out first m (suc i) =
    set (set (inputs_over out first m i) (11 + 4 * i) (first + i)) (11 + 4 * m + 8 * i) 1

-- A record of so many states, all of one class, and no events.
unfoldable pub plain_part : ℕ → List ℕ
plain_part states = part_over (replicate (10 + states) 0) states 0

-- A record of one state and m low inputs, from an identifier on.
unfoldable pub inputs_part : ℕ → ℕ → List ℕ
inputs_part first m = inputs_over (part_over (replicate (11 + 12 * m) 0) 1 m) first m m

-- The end of each line.
abbrev pub line_end : List ℕ
line_end = 10 ∷ []

-- What stands behind the words: how long the joined record is, that it would be too large, or any other answer.
unfoldable pub answer_line : Joining → List ℕ
answer_line (length_is n) = codes "joined " ++ decimal n ++ line_end
answer_line (unfit side v) = codes "no record" ++ line_end
answer_line (stopped (clash e)) = codes "no record" ++ line_end
answer_line (stopped (refusal k)) =
    cond (eqb k 11) (codes "refused " ++ decimal k ++ line_end) (codes "no record" ++ line_end)

-- The line of a pair: some words, and what Join answers in a buffer of 1,024 bytes.
unfoldable pub pair_line : List ℕ → List ℕ → List ℕ → List ℕ
pair_line words a b = words ++ answer_line (joining a b 1024)

-- 64 states, the most that a record has, joined with 1 and with 2.
unfoldable pub states_lines : List ℕ
states_lines =
    pair_line (codes "64 states with 1: ") (plain_part 64) (plain_part 1)
    ++ pair_line (codes "64 states with 2: ") (plain_part 64) (plain_part 2)

-- 16 entries joined with 16 others, together 32, the most that a record has, and with 17 others.
unfoldable pub entries_lines : List ℕ
entries_lines =
    pair_line (codes "16 entries with 16: ") (inputs_part 0 16) (inputs_part 16 16)
    ++ pair_line (codes "16 entries with 17: ") (inputs_part 0 16) (inputs_part 16 17)
