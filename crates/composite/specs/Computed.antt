-- The answer of Join and the joined record as they compute, for tables of examples.
use Rattle.std.specs.Prelude.{ℕ, Bool, true, false, ◌&&◌, List, [], ◌∷◌, eqb}
use Rattle.bounded.specs.Search.{first, or_else, when, each}
use Rattle.words.specs.Sets.{bit, single, mask}
use Rattle.words.specs.Pairs.{pair, product}
use Rattle.words.specs.LittleEndian.{number, digits}
use Rattle.part.specs.Format.{form}
use Rattle.part.specs.Record.{kind, lead, listed_level, observer, states, start, events, column, classes_below, entry_at, identifier, event_kind, level, row_at, row}
use Rattle.part.specs.Layout.{body, layout}
use Rattle.part.specs.Events.{kind_of, at_place, place, event_of}
use Rattle.restrictive.specs.Judged.{judged, same}
use Rattle.composite.specs.Merge.{beside, merge}
use Rattle.composite.specs.Meeting.{meets, clashes, combined, kind_byte, level_byte}
use Rattle.composite.specs.Joined.{identifiers, merged, joined_kind, column_in, classes, after, joined_event, joined_row, joined_fields, joined}
use Rattle.composite.specs.Joining.{Obstacle, refusal, clash, levels_differ, observers_differ, clash_at, first_clash, too_large, obstacle, Side, first_record, second_record, Joining, length_is, unfit, stopped, unless_unfit, into, unless_stopped, joining}

-- The joined record, computed.
unfoldable pub hooked : List ℕ → List ℕ → List ℕ
unfolding joined joined_fields joined_kind column_in joined_row joined_event combined kind_byte level_byte after classes merged identifiers merge beside layout body product pair mask bit single place at_place event_of kind_of first or_else form kind lead listed_level observer states start events column classes_below entry_at identifier event_kind level row_at row number digits each
hooked a b = joined a b

-- The answer, computed.
unfoldable pub answered : List ℕ → List ℕ → ℕ → Joining
unfolding hooked judged joining unless_unfit unless_stopped into obstacle too_large first_clash clash_at observers_differ levels_differ when clashes meets
answered a b room = joining a b room

abbrev pub same_bytes : List ℕ → List ℕ → Bool
same_bytes [] [] = true
same_bytes [] (y ∷ ys) = false
same_bytes (x ∷ xs) [] = false
same_bytes (x ∷ xs) (y ∷ ys) = eqb x y && same_bytes xs ys

abbrev same_obstacle : Obstacle → Obstacle → Bool
same_obstacle (refusal j) (refusal k) = eqb j k
same_obstacle (refusal j) (clash e) = false
same_obstacle (clash e) (refusal k) = false
same_obstacle (clash d) (clash e) = eqb d e

abbrev same_side : Side → Side → Bool
same_side first_record first_record = true
same_side first_record second_record = false
same_side second_record first_record = false
same_side second_record second_record = true

abbrev pub same_answer : Joining → Joining → Bool
same_answer (length_is m) (length_is n) = eqb m n
same_answer (length_is m) (unfit t w) = false
same_answer (length_is m) (stopped p) = false
same_answer (unfit s v) (length_is n) = false
same_answer (unfit s v) (unfit t w) = same_side s t && same v w
same_answer (unfit s v) (stopped p) = false
same_answer (stopped o) (length_is n) = false
same_answer (stopped o) (unfit t w) = false
same_answer (stopped o) (stopped p) = same_obstacle o p
