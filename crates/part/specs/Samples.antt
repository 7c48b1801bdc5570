-- The records of document 01, "Examples", small records of the other kinds, and records of any size.
use Rattle.std.specs.Prelude.{ℕ, ◌+◌, ◌*◌, List, [], ◌∷◌, ◌++◌, length}
use Rattle.words.specs.LittleEndian.{digits}
use Rattle.part.specs.Format.{single_kind}
use Rattle.part.specs.Layout.{Table, Fields, layout}

-- P, 52 bytes: two states, input 1 is high and toggles, output 2 is low and stays.
abbrev pub P : List ℕ
P =
    0x2E ∷ 0 ∷ 0 ∷ 0 ∷ 0x01 ∷ 0 ∷ []
    ++ 0x00 ∷ 0x02 ∷ 0x00 ∷ 0x02 ∷ []
    ++ 0x00 ∷ 0x00 ∷ []
    ++ 0x01 ∷ 0x00 ∷ 0x00 ∷ 0x40 ∷ []
    ++ 0x02 ∷ 0x00 ∷ 0x01 ∷ 0x00 ∷ []
    ++ digits 8 2 ++ digits 8 1 ++ digits 8 1 ++ digits 8 2

-- Q: one state, and low input 2 stays.
abbrev pub Q : List ℕ
Q =
    0x11 ∷ 0 ∷ 0 ∷ 0 ∷ 0x01 ∷ 0 ∷ []
    ++ 0x00 ∷ 0x01 ∷ 0x00 ∷ 0x01 ∷ []
    ++ 0x00 ∷ []
    ++ 0x02 ∷ 0x00 ∷ 0x00 ∷ 0x00 ∷ []
    ++ digits 8 1

-- Z, 11 bytes: one state, no events.
abbrev pub Z : List ℕ
Z = 5 ∷ 0 ∷ 0 ∷ 0 ∷ 1 ∷ 0 ∷ 0 ∷ 1 ∷ 0 ∷ 0 ∷ 0 ∷ []

-- T: three states, start 0, observer 0, classes 0 0 1, and one event 1 of this kind and level with these rows.
abbrev pub T : ℕ → ℕ → ℕ → ℕ → ℕ → List ℕ
T kind level row-0 row-1 row-2 =
    0x23 ∷ 0 ∷ 0 ∷ 0 ∷ 0x01 ∷ 0 ∷ []
    ++ 0x00 ∷ 0x03 ∷ 0x00 ∷ 0x01 ∷ []
    ++ 0x00 ∷ 0x00 ∷ 0x01 ∷ []
    ++ 0x01 ∷ 0x00 ∷ kind ∷ level ∷ []
    ++ digits 8 row-0 ++ digits 8 row-1 ++ digits 8 row-2

-- A record of kind 2: two states, which input 1 of level 0x40 toggles, for observers of the levels 0 and 0x40. For the first each state has
-- its own class, for the second both have one.
abbrev pub two_observers : List ℕ
two_observers =
    0x1E ∷ 0 ∷ 0 ∷ 0 ∷ 0x02 ∷ 0 ∷ []
    ++ 0x02 ∷ 0x02 ∷ 0x00 ∷ 0x01 ∷ []
    ++ 0x00 ∷ 0x40 ∷ []
    ++ 0x00 ∷ 0x01 ∷ []
    ++ 0x00 ∷ 0x00 ∷ []
    ++ 0x01 ∷ 0x00 ∷ 0x00 ∷ 0x40 ∷ []
    ++ digits 8 2 ++ digits 8 1

-- A record of kind 3 with the same table, for an observer of level 0: both states have one class, and each has its own fine class.
abbrev pub limited_sample : List ℕ
limited_sample =
    0x1C ∷ 0 ∷ 0 ∷ 0 ∷ 0x03 ∷ 0 ∷ []
    ++ 0x00 ∷ 0x02 ∷ 0x00 ∷ 0x01 ∷ []
    ++ 0x00 ∷ 0x00 ∷ []
    ++ 0x00 ∷ 0x01 ∷ []
    ++ 0x01 ∷ 0x00 ∷ 0x00 ∷ 0x40 ∷ []
    ++ digits 8 2 ++ digits 8 1

-- An entry with an identifier below 256, and rows.
abbrev pub entry : ℕ → ℕ → ℕ → List ℕ
entry identifier kind level = identifier ∷ 0 ∷ kind ∷ level ∷ []

abbrev pub words : List ℕ → List ℕ
words [] = []
words (r ∷ rs) = digits 8 r ++ words rs

-- The bytes of a record from its kind, the four numbers of its body, what is listed, its columns one behind the other, entries and rows.
abbrev pub bytes_of : ℕ → ℕ → ℕ → ℕ → ℕ → List ℕ → List ℕ → List ℕ → List ℕ → List ℕ
bytes_of kind lead n start m lists columns entries rows =
    digits 4 (4 + length lists + length columns + length entries + 8 * length rows) ++ kind ∷ 0 ∷ lead ∷ n ∷ start ∷ m ∷ []
    ++ lists ++ columns ++ entries ++ words rows

-- A record of kind 1: a table, and one observer with its level and the class of each state.
abbrev pub observed : Table → ℕ → (ℕ → ℕ) → Fields
observed table level class =
    record { kind = single_kind; lead = level; table = table; listed = λ o. 0; class = λ o. class }

-- n states, all of one class, and m inputs 0, 1, .. of level 0 that lead every state to state 0.
abbrev pub resetting : ℕ → ℕ → List ℕ
resetting n m = layout (observed (record {
  states = n;
  start = 0;
  events = m;
  identifier = λ i. i;
  event_kind = λ i. 0;
  level = λ i. 0;
  row = λ i s. 1;
}) 0 (λ s. 0))
