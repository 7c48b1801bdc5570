-- The rejections of a record (document 01, "Refusals out of the input", 1 to 8; document 02, d, 16, k, 20, and l, 21).
use Rattle.std.specs.Prelude.{ℕ, zero, suc, ◌-◌, ◌≡◌, Bool, true, false, not, ◌||◌, ◌&&◌, List, [], ◌∷◌, ◌++◌, length, ltb, leb, eqb}
use Rattle.std.proofs.Math.Option.{Option, none, some}
use Rattle.bounded.specs.Search.{any}
use Rattle.words.specs.Sets.{exceeds}
use Rattle.words.specs.LittleEndian.{byte}
use Rattle.level.specs.Level.{mislabelled}
use Rattle.partition.specs.Classes.{crosses}
use Rattle.part.specs.Format.{max_states, max_events, single_kind, several_kind, limited_kind, least_listed, max_observers, max_event_kind, header, body_size}
use Rattle.part.specs.Record.{body_length, kind, observer, states, start, events, counts, observers, column, fine_column, classes_below, identifier, event_kind, level, row}

-- 1: fewer than six bytes.
unfoldable pub too_short : List ℕ → Bool
too_short b = ltb (length b) header

-- 2: L is not the number of bytes after the first six.
unfoldable pub wrong_length : List ℕ → Bool
wrong_length b = not (eqb (body_length b) (length b - header))

-- 3: the kind is none of 1, 2 and 3.
unfoldable pub wrong_kind : List ℕ → Bool
wrong_kind b = not (eqb (kind b) single_kind || eqb (kind b) several_kind || eqb (kind b) limited_kind)

-- 4: the body is under four bytes, or n, the start or m is outside its range.
unfoldable pub out_of_range : List ℕ → Bool
out_of_range b =
    ltb (body_length b) 4
    || ltb (states b) 1
    || ltb max_states (states b)
    || leb (states b) (start b)
    || ltb max_events (events b)

-- 5: L is not what kind and counts say.
unfoldable pub wrong_size : List ℕ → Bool
wrong_size b = not (eqb (body_length b) (body_size (counts b)))

-- In a sequence of numbers the one at place i is not above the one before it.
unfoldable pub falls : (ℕ → ℕ) → ℕ → Bool
falls f zero = false
falls f (suc i) = leb (f (suc i)) (f i)

-- 20: the kind is 2, and there are fewer than two observers, or more than four, or their levels do not rise.
unfoldable pub mislisted : List ℕ → Bool
mislisted b =
    eqb (kind b) several_kind
    && (ltb (observers b) least_listed || ltb max_observers (observers b) || any (observers b) (falls (observer b)))

-- In a column the class of state s is more than one above the largest before it (above 0 for state 0).
unfoldable pub skips_at : List ℕ → ℕ → Bool
skips_at column s = ltb (classes_below column s) (byte column s)

-- The classes of a column are not numbered by first appearance.
unfoldable pub unnumbered : List ℕ → Bool
unnumbered column = any (length column) (skips_at column)

-- 6: the classes of some observer are not numbered by first appearance.
unfoldable pub misnumbered_at : List ℕ → ℕ → Bool
misnumbered_at b o = unnumbered (column b o)

unfoldable pub misnumbered : List ℕ → Bool
misnumbered b = any (observers b) (misnumbered_at b)

-- 21: the kind is 3, and the fine classes are not numbered by first appearance, or one of them stands in two classes.
unfoldable pub misrefined : List ℕ → Bool
misrefined b =
    eqb (kind b) limited_kind
    && (unnumbered (fine_column b 0) || crosses (states b) (byte (column b 0)) (byte (fine_column b 0)))

-- The kind of the event at place i is above 2.
unfoldable pub unknown_at : List ℕ → ℕ → Bool
unknown_at b i = ltb max_event_kind (event_kind b i)

-- The identifier at place i is not above the one before it, or the event's kind is above 2.
unfoldable pub misordered_at : List ℕ → ℕ → Bool
misordered_at b i = falls (identifier b) i || unknown_at b i

-- 7: the identifiers do not rise, or an event's kind is above 2.
unfoldable pub misordered : List ℕ → Bool
misordered b = any (events b) (misordered_at b)

-- The level of the event at place i is mislabelled.
unfoldable pub mislabelled_at : List ℕ → ℕ → Bool
mislabelled_at b i = mislabelled (level b i)

-- The level of observer o is mislabelled.
unfoldable pub mislabelled_observer : List ℕ → ℕ → Bool
mislabelled_observer b o = mislabelled (observer b o)

-- 16: the level of some observer or of some event is mislabelled.
unfoldable pub mislabelled_part : List ℕ → Bool
mislabelled_part b = any (observers b) (mislabelled_observer b) || any (events b) (mislabelled_at b)

-- The row of the event at place i and of state s has a bit at n or above.
unfoldable pub strays_at : List ℕ → ℕ → ℕ → Bool
strays_at b i s = exceeds (states b) (row b i s)

-- 8: some row has a bit at n or above.
unfoldable pub row_strays : List ℕ → ℕ → Bool
row_strays b i = any (states b) (strays_at b i)

unfoldable pub stray_bit : List ℕ → Bool
stray_bit b = any (events b) (row_strays b)

-- A condition with its number.
pub record Condition : Type 0 where
  pub number : ℕ
  pub holds : List ℕ → Bool

-- The conditions, in the order in which they are tested: first those of the frame, behind which every field can be read, ..
abbrev pub frame_conditions : List Condition
frame_conditions =
    record { number = 1; holds = too_short }
    ∷ record { number = 2; holds = wrong_length }
    ∷ record { number = 3; holds = wrong_kind }
    ∷ record { number = 4; holds = out_of_range }
    ∷ record { number = 5; holds = wrong_size }
    ∷ record { number = 20; holds = mislisted }
    ∷ []

-- .. then those of the content.
abbrev pub content_conditions : List Condition
content_conditions =
    record { number = 6; holds = misnumbered }
    ∷ record { number = 21; holds = misrefined }
    ∷ record { number = 7; holds = misordered }
    ∷ record { number = 16; holds = mislabelled_part }
    ∷ record { number = 8; holds = stray_bit }
    ∷ []

abbrev pub conditions : List Condition
conditions = frame_conditions ++ content_conditions

-- The number of the first condition of the list that holds, or none.
unfoldable pub first_of : List Condition → List ℕ → Option ℕ
first_of [] b = none
first_of (c ∷ cs) b = elim (c.holds b) [ true ↦ some c.number | false ↦ first_of cs b ]

-- The rejection of a record.
unfoldable pub rejection : List ℕ → Option ℕ
rejection b = first_of conditions b

-- No condition of the list holds.
abbrev pub NoneOf : List Condition → List ℕ → Type 0
NoneOf [] b = Unit {0}
NoneOf (c ∷ cs) b = (c.holds b ≡ false) × NoneOf cs b

-- The record is accepted: no rejection applies to it (document 01: well-formed).
abbrev pub Accepted : List ℕ → Type 0
Accepted b = NoneOf conditions b
