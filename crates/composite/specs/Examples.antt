-- Records that tell the definitions of Join from their wrong readings: the numbering of states and classes, the order of the merged entries,
-- a shared event that moves both parts, lists of observers, fine columns and limits, and the order of the answers.
use Rattle.std.specs.Prelude.{ℕ, Bool, true, ◌&&◌, List, [], ◌∷◌, ◌++◌, T, eqb, length, set, take, replicate}
use Rattle.words.specs.Laid.{over}
use Rattle.part.specs.Samples.{P, Q, Z, entry, bytes_of, resetting}
use Rattle.restrictive.specs.Verdict.{refused}
use Rattle.restrictive.specs.Judged.{told, broken_at}
use Rattle.composite.specs.Joining.{refusal, clash, first_record, second_record, Joining, length_is, unfit, stopped, buffer_after}
use Rattle.composite.specs.Computed.{hooked, answered, same_bytes, same_answer}

-- A record for observer 0 from its start, classes, entries and rows.
unfoldable sample : ℕ → List ℕ → ℕ → List ℕ → List ℕ → List ℕ
sample start classes m entries rows = bytes_of 1 0 (length classes) start m [] classes entries rows

-- Two parts with events of their own. The pair (a, b) is state 3 a + b, its class 2 cA + cB; event 4 stands before event 5.
abbrev toggles : List ℕ
toggles = sample 1 (0 ∷ 1 ∷ []) 1 (entry 5 0 0) (2 ∷ 1 ∷ [])

abbrev wanders : List ℕ
wanders = sample 2 (0 ∷ 0 ∷ 1 ∷ []) 1 (entry 4 1 0) (2 ∷ 5 ∷ 0 ∷ [])

abbrev side_by_side : List ℕ
side_by_side =
    sample 5 (0 ∷ 0 ∷ 1 ∷ 2 ∷ 2 ∷ 3 ∷ []) 2 (entry 4 1 0 ++ entry 5 0 0)
    (2 ∷ 5 ∷ 0 ∷ 16 ∷ 40 ∷ 0 ∷ 8 ∷ 16 ∷ 32 ∷ 1 ∷ 2 ∷ 4 ∷ [])

-- Two parts that share event 7: it moves both, and is internal.
abbrev sender : List ℕ
sender = sample 0 (0 ∷ 0 ∷ []) 1 (entry 7 1 0) (2 ∷ 1 ∷ [])

abbrev receiver : List ℕ
receiver = sample 0 (0 ∷ 0 ∷ []) 1 (entry 7 0 0) (3 ∷ 2 ∷ [])

abbrev together : List ℕ
together = sample 0 (0 ∷ 0 ∷ 0 ∷ 0 ∷ []) 1 (entry 7 2 0) (12 ∷ 8 ∷ 3 ∷ 2 ∷ [])

-- A record of kind 2 without events, start 0: levels, number of states, and class columns, one behind the other.
unfoldable listing : List ℕ → ℕ → List ℕ → List ℕ
listing levels n columns = bytes_of 2 (length levels) n 0 0 levels columns [] []

-- Two parts with two observers. In each column the class of a pair goes by B's number of classes in that column: 1 in the first, 2 in the
-- second. With the other's number it would be 0 0 2 2 and 0 1 0 1, with one number for both columns likewise.
abbrev two_left : List ℕ
two_left = listing (0x00 ∷ 0x40 ∷ []) 2 (0 ∷ 1 ∷ 0 ∷ 0 ∷ [])

abbrev two_right : List ℕ
two_right = listing (0x00 ∷ 0x40 ∷ []) 2 (0 ∷ 0 ∷ 0 ∷ 1 ∷ [])

abbrev two_joined : List ℕ
two_joined = listing (0x00 ∷ 0x40 ∷ []) 4 (0 ∷ 0 ∷ 1 ∷ 1 ∷ 0 ∷ 1 ∷ 0 ∷ 1 ∷ [])

-- A record of kind 3 without events, start 0, with these classes and fine classes.
unfoldable finely : List ℕ → List ℕ → List ℕ
finely classes fine = bytes_of 3 0 (length classes) 0 0 [] (classes ++ fine) [] []

-- A limited part, with two fine classes in its second class, and a part of kind 1, whose classes stand for its fine ones. The column of
-- classes goes by B's number of classes and the fine one by its number of fine classes, 3 and not 2 in the second join. Zeros for the fine
-- column of kind 1 would give 0 0 1 1 2 2 in the first.
abbrev split : List ℕ
split = finely (0 ∷ 1 ∷ 1 ∷ []) (0 ∷ 1 ∷ 2 ∷ [])

abbrev plain : List ℕ
plain = sample 0 (0 ∷ 1 ∷ []) 0 [] []

abbrev split_plain : List ℕ
split_plain = finely (0 ∷ 1 ∷ 2 ∷ 3 ∷ 2 ∷ 3 ∷ []) (0 ∷ 1 ∷ 2 ∷ 3 ∷ 4 ∷ 5 ∷ [])

abbrev plain_split : List ℕ
plain_split = finely (0 ∷ 1 ∷ 1 ∷ 2 ∷ 3 ∷ 3 ∷ []) (0 ∷ 1 ∷ 2 ∷ 3 ∷ 4 ∷ 5 ∷ [])

-- Two limited parts: the limit of the joined part is 4, the product of the limits; the classes of each are 1, so that their product is no limit.
abbrev pair_up : List ℕ
pair_up = finely (0 ∷ 0 ∷ []) (0 ∷ 1 ∷ [])

abbrev paired : List ℕ
paired = finely (0 ∷ 0 ∷ 0 ∷ 0 ∷ []) (0 ∷ 1 ∷ 2 ∷ 3 ∷ [])

limits_so : Bool
unfolding told hooked finely sample
limits_so =
    eqb (told (hooked pair_up pair_up)) 4 && eqb (told (hooked split plain)) 2 && eqb (told (hooked plain split)) 2
    && eqb (told (hooked plain plain)) 1 && eqb (told (hooked split pair_up)) 4

limits_multiply : T limits_so
unfolding limits_so
limits_multiply = tt

-- One state, for observers of these levels.
abbrev still : List ℕ → List ℕ
still levels = listing levels 1 (replicate (length levels) 0)

bytes_so : Bool
unfolding hooked sample listing finely
bytes_so =
    same_bytes (hooked toggles wanders) side_by_side
    && same_bytes (hooked sender receiver) together
    && same_bytes (hooked Z sender) sender
    && same_bytes (hooked two_left two_right) two_joined
    && same_bytes (hooked split plain) split_plain
    && same_bytes (hooked plain split) plain_split
    && same_bytes (hooked pair_up pair_up) paired

bytes_as_written : T bytes_so
unfolding bytes_so
bytes_as_written = tt

-- Two records, the room of the buffer, and the answer.
record Line : Type 0 where
  a : List ℕ
  b : List ℕ
  room : ℕ
  answer : Joining

abbrev line : List ℕ → List ℕ → ℕ → Joining → Line
line a b room answer = record { a = a; b = b; room = room; answer = answer }

all_answered : List Line → Bool
unfolding answered sample listing finely
all_answered [] = true
all_answered (l ∷ ls) = same_answer (answered l.a l.b l.room) l.answer && all_answered ls

abbrev table : List Line
table =
    -- room for all but one byte, and for all
    line P Q 51 (stopped (refusal 15))
    ∷ line P Q 52 (length_is 52)
    -- a record's own refusal or break comes first, A's before B's, with its side
    ∷ line P (set P 11 1) 0 (unfit second_record (broken_at 2 1 0 1 0))
    ∷ line (set P 11 1) (take 5 P) 0 (unfit first_record (broken_at 2 1 0 1 0))
    ∷ line (take 5 P) (set P 11 1) 0 (unfit first_record (refused 1))
    ∷ line P (set Q 4 4) 0 (unfit second_record (refused 3))
    ∷ line P (set Q 14 0x01) 0 (unfit second_record (refused 16))
    -- 9 before 10: Q for another observer, with an input in the place of P's event 1
    ∷ line P (set Q 6 0x40) 52 (stopped (refusal 9))
    ∷ line P (set (set Q 6 0x40) 11 1) 52 (stopped (refusal 9))
    -- 9 for lists: one longer than the other, in both orders; kind 1 is a list of one; a level that differs. Equal lists join
    ∷ line (still (0x00 ∷ 0x40 ∷ [])) (still (0x00 ∷ 0x40 ∷ 0x80 ∷ [])) 99 (stopped (refusal 9))
    ∷ line (still (0x00 ∷ 0x40 ∷ 0x80 ∷ [])) (still (0x00 ∷ 0x40 ∷ [])) 99 (stopped (refusal 9))
    ∷ line Z (still (0x00 ∷ 0x40 ∷ [])) 99 (stopped (refusal 9))
    ∷ line (still (0x00 ∷ 0x40 ∷ [])) Z 99 (stopped (refusal 9))
    ∷ line (still (0x00 ∷ 0x40 ∷ [])) (still (0x00 ∷ 0x80 ∷ [])) 99 (stopped (refusal 9))
    ∷ line (still (0x00 ∷ 0x40 ∷ [])) (still (0x00 ∷ 0x40 ∷ [])) 14 (length_is 14)
    ∷ line two_left two_right 20 (length_is 20)
    -- a limited part has one observer: it joins with kinds 1 and 3 for the same one, and not with kind 2
    ∷ line split plain 22 (length_is 22)
    ∷ line plain split 22 (length_is 22)
    ∷ line split split 28 (length_is 28)
    ∷ line split (set plain 6 0x40) 99 (stopped (refusal 9))
    ∷ line split (still (0x00 ∷ 0x40 ∷ [])) 99 (stopped (refusal 9))
    ∷ line (still (0x00 ∷ 0x40 ∷ [])) split 99 (stopped (refusal 9))
    ∷ line plain (finely (0 ∷ 0 ∷ []) (0 ∷ 2 ∷ [])) 99 (unfit second_record (refused 21))
    -- 10: input with input; output with input at another level
    ∷ line P (set Q 11 1) 52 (stopped (clash 1))
    ∷ line P (set Q 14 0x40) 52 (stopped (clash 2))
    -- 10 before 11: 9 x 9 states, and event 0 clashes; 11 before 15
    ∷ line (resetting 9 1) (resetting 9 1) 0 (stopped (clash 0))
    ∷ line (resetting 9 0) (resetting 8 0) 0 (stopped (refusal 11))
    ∷ line (resetting 8 0) (resetting 8 0) 0 (stopped (refusal 15))
    ∷ []

answers_as_written : T (all_answered table)
unfolding all_answered
answers_as_written = tt

-- What the buffer holds after a record of two bytes, and after a refused call.
buffers_so : Bool
unfolding buffer_after over
buffers_so =
    same_bytes (buffer_after (length_is 2) (1 ∷ 2 ∷ []) (7 ∷ 8 ∷ 9 ∷ [])) (1 ∷ 2 ∷ 9 ∷ [])
    && same_bytes (buffer_after (stopped (refusal 15)) (1 ∷ 2 ∷ []) (7 ∷ 8 ∷ 9 ∷ [])) (7 ∷ 8 ∷ 9 ∷ [])
    && same_bytes (buffer_after (unfit second_record (refused 1)) (1 ∷ 2 ∷ []) (7 ∷ 8 ∷ 9 ∷ [])) (7 ∷ 8 ∷ 9 ∷ [])

buffers_as_written : T buffers_so
unfolding buffers_so
buffers_as_written = tt
