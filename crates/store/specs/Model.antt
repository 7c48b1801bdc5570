-- The reference model (document 01: the plain bench): a list of records and a capacity, never the bytes of a shelf.
use Rattle.std.specs.Prelude.{ℕ, ◌+◌, cond, ltb, leb, length, get_or}
use mathlib.Core.List.{List, [], ◌∷◌, ◌++◌, flatten}
use Rattle.std.proofs.Math.Option.{none, some}
use Rattle.restrictive.specs.Verdict.{pass, refused, breaks, verdict}
use Rattle.composite.specs.Joined.{joined}
use Rattle.composite.specs.Joining.{obstacle}
use Rattle.store.specs.Answer as answer
use Rattle.store.specs.Answer.{Answer, obstacle_answer}

-- The calls that change a shelf.
pub data Call : Type 0 where
  clear : Call
  load : List ℕ → Call
  hookup : ℕ → ℕ → Call

-- What a call leaves: its answer, and the list of records.
pub record Kept : Type 0 where
  pub answer : Answer
  pub records : List (List ℕ)

-- An answer, and the list that it leaves.
abbrev pub kept : List (List ℕ) → Answer → Kept
kept rs a = record { answer = a; records = rs }

-- An append happens only if the lengths of all records, the new one included, and six more fit the capacity; it
-- answers with the number of records before it.
unfoldable pub append : ℕ → List (List ℕ) → List ℕ → Kept
append capacity rs r =
    cond (ltb capacity (length (flatten rs) + length r + 6)) (kept rs (answer.refused 15))
    (kept (rs ++ r ∷ []) (answer.gives (length rs)))

-- A record that passes Check is appended.
unfoldable pub load_record : ℕ → List (List ℕ) → List ℕ → Kept
load_record capacity rs r =
    elim (verdict r) [
      | pass ↦ append capacity rs r
      | refused k ↦ kept rs (answer.refused k)
      | breaks v ↦ kept rs (answer.breaks v)
    ]

-- The joined record of two parts is appended, if nothing stands between them.
unfoldable pub hookup_records : ℕ → List (List ℕ) → List ℕ → List ℕ → Kept
hookup_records capacity rs a b =
    elim (obstacle a b) [ none ↦ append capacity rs (joined a b) | some o ↦ kept rs (obstacle_answer o) ]

-- One call: a part outside the list is 13.
unfoldable pub step : ℕ → Call → List (List ℕ) → Kept
step capacity clear rs = kept [] (answer.gives 0)
step capacity (load r) rs = load_record capacity rs r
step capacity (hookup i j) rs =
    cond (leb (length rs) i) (kept rs (answer.refused 13))
    (cond (leb (length rs) j) (kept rs (answer.refused 13)) (hookup_records capacity rs (get_or rs i []) (get_or rs j [])))

-- The list after some calls, and their answers.
unfoldable pub records_after : ℕ → List Call → List (List ℕ) → List (List ℕ)
records_after capacity [] rs = rs
records_after capacity (c ∷ cs) rs = records_after capacity cs (step capacity c rs).records

unfoldable pub answers : ℕ → List Call → List (List ℕ) → List Answer
answers capacity [] rs = []
answers capacity (c ∷ cs) rs = (step capacity c rs).answer ∷ answers capacity cs (step capacity c rs).records
