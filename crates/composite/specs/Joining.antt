-- What Join answers, and what it leaves in the output buffer (document 01, "The shelf", "Refusals" and "Order").
use Rattle.std.specs.Prelude.{ℕ, ◌*◌, Bool, not, ◌||◌, cond, List, ltb, eqb, length}
use Rattle.std.proofs.Math.Option.{Option, none, some}
use Rattle.bounded.specs.Search.{any, first, or_else, when}
use Rattle.words.specs.Laid.{over}
use Rattle.part.specs.Format.{max_states, max_events}
use Rattle.part.specs.Record.{observers, observer, states, events, identifier}
use Rattle.part.specs.Events.{event_of}
use Rattle.restrictive.specs.Verdict.{Verdict, pass, refused, breaks, verdict}
use Rattle.composite.specs.Meeting.{clashes}
use Rattle.composite.specs.Joined.{merged, joined}

-- Why there is no joined record: a refusal by its number, or refusal 10 with the identifier that clashes.
pub data Obstacle : Type 0 where
  refusal : ℕ → Obstacle
  clash : ℕ → Obstacle

-- The levels of observer o differ.
unfoldable pub levels_differ : List ℕ → List ℕ → ℕ → Bool
levels_differ a b o = not (eqb (observer a o) (observer b o))

-- 9: the lists of observers differ.
unfoldable pub observers_differ : List ℕ → List ℕ → Bool
observers_differ a b = not (eqb (observers a) (observers b)) || any (observers a) (levels_differ a b)

-- 10: a shared event clashes; the smallest such identifier. A's identifiers are tried in their rising order.
unfoldable pub clash_at : List ℕ → List ℕ → ℕ → Option Obstacle
clash_at a b i = when (clashes (event_of a (identifier a i)) (event_of b (identifier a i))) (clash (identifier a i))

unfoldable pub first_clash : List ℕ → List ℕ → Option Obstacle
first_clash a b = first (events a) (clash_at a b)

-- 11: nA × nB is above 64, or there are more than 32 merged entries.
unfoldable pub too_large : List ℕ → List ℕ → Bool
too_large a b = ltb max_states (states a * states b) || ltb max_events (length (merged a b))

-- The first obstacle between two passing parts.
unfoldable pub obstacle : List ℕ → List ℕ → Option Obstacle
obstacle a b = or_else (when (observers_differ a b) (refusal 9)) (or_else (first_clash a b) (when (too_large a b) (refusal 11)))

-- The record that an answer speaks of: the first one, A, or the second, B.
pub data Side : Type 0 where
  first_record second_record : Side

-- The joined record's length; a record's own refusal or break; or an obstacle, 15 among them.
pub data Joining : Type 0 where
  length_is : ℕ → Joining
  unfit : Side → Verdict → Joining
  stopped : Obstacle → Joining

-- A record that does not pass is the answer.
unfoldable pub unless_unfit : Side → Verdict → Joining → Joining
unless_unfit side pass next = next
unless_unfit side (refused k) next = unfit side (refused k)
unless_unfit side (breaks v) next = unfit side (breaks v)

-- 15: the output buffer is too short for the record.
unfoldable pub into : ℕ → ℕ → Joining
into room size = cond (ltb room size) (stopped (refusal 15)) (length_is size)

unfoldable pub unless_stopped : Option Obstacle → Joining → Joining
unless_stopped none next = next
unless_stopped (some o) next = stopped o

-- The answer to A and B with an output buffer of so many bytes.
unfoldable pub joining : List ℕ → List ℕ → ℕ → Joining
joining a b room =
    unless_unfit first_record (verdict a)
    (unless_unfit second_record (verdict b)
    (unless_stopped (obstacle a b) (into room (length (joined a b)))))

-- The output buffer after an answer: the joined record from its start on, or unchanged.
unfoldable pub buffer_after : Joining → List ℕ → List ℕ → List ℕ
buffer_after (length_is n) bytes out = over out 0 bytes
buffer_after (unfit side v) bytes out = out
buffer_after (stopped o) bytes out = out
