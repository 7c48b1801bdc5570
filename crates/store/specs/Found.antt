-- What the inner functions say of a walk, and of what stands behind the records.
use Rattle.std.specs.Prelude.{ℕ, ◌+◌, ◌≤◌, ◌≡◌, cond, ltb, length, Result, MatchResult}
use mathlib.Core.List.{List, ◌++◌, flatten}
use Rattle.std.proofs.Math.Option.{none, some}
use Rattle.words.specs.Laid.{over}
use Rattle.part.specs.Format.{header}
use Rattle.composite.specs.Joined.{joined}
use Rattle.composite.specs.Joining.{obstacle}
use Rattle.store.specs.declared.found.End.{End}
use Rattle.store.specs.declared.found.NoEnd.{NoEnd}
use Rattle.store.specs.declared.found.Extent.{Extent}
use Rattle.store.specs.Answer as answer
use Rattle.store.specs.Answer.{obstacle_answer}
use Rattle.store.specs.Calls.{Left, unchanged, end_bytes}
use Rattle.store.specs.Walk.{walk, records}
use Rattle.store.specs.Reading.{place, part}

-- A walk of s finds its end record at a place, behind n records.
pub record Ends (s : List ℕ) (n at : ℕ) : Type 0 where
  pub ends : walk s ≡ some (records s)
  pub many : n ≡ length (records s)
  pub place : at ≡ length (flatten (records s))
  pub within : at ≤ length s

-- What the code's walk of s says.
abbrev pub Finds : Result End NoEnd → List ℕ → Type 0
Finds r s = MatchResult r (λ e. Ends s e.records e.place) (λ _. walk s ≡ none)

-- The place and the length of record i.
pub record Spans (s : List ℕ) (i : ℕ) (e : Extent) : Type 0 where
  pub starts : e.place ≡ place s i
  pub long : e.size ≡ length (part s i)

-- The bytes from the end record on, behind n records, when a record is appended; 15 where it does not fit them with an
-- end record.
unfoldable pub append_behind : ℕ → List ℕ → List ℕ → Left
append_behind n back r =
    cond (ltb (length back) (length r + header)) (unchanged back (answer.refused 15))
    (record { answer = answer.gives n; shelf = over back 0 (r ++ end_bytes) })

-- The same when the joined record of a and b is appended; 9, 10, 11, 15.
unfoldable pub joined_behind : ℕ → List ℕ → List ℕ → List ℕ → Left
joined_behind n back a b =
    elim (obstacle a b) [ none ↦ append_behind n back (joined a b) | some o ↦ unchanged back (obstacle_answer o) ]
