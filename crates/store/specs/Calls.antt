-- Clear, Load and Hookup on the bytes of a shelf: the answer, and every byte afterwards (document 01, "The shelf" and
-- "Order").
use Rattle.std.specs.Prelude.{ℕ, ◌+◌, Bool, true, false, cond, ltb, leb, length, get_or, replicate}
use mathlib.Core.List.{List, [], ◌++◌, flatten}
use Rattle.std.proofs.Math.Option.{none, some}
use Rattle.words.specs.Laid.{over}
use Rattle.part.specs.Format.{header}
use Rattle.restrictive.specs.Verdict.{pass, refused, breaks, verdict}
use Rattle.composite.specs.Joined.{joined}
use Rattle.composite.specs.Joining.{obstacle}
use Rattle.store.specs.Answer as answer
use Rattle.store.specs.Answer.{Answer, obstacle_answer}
use Rattle.store.specs.Walk.{walk}

-- The end record: six zero bytes.
unfoldable pub end_bytes : List ℕ
end_bytes = replicate header 0

-- What a call leaves: its answer, and the shelf.
pub record Left : Type 0 where
  pub answer : Answer
  pub shelf : List ℕ

-- A refused call leaves the shelf as it was.
abbrev pub unchanged : List ℕ → Answer → Left
unchanged s a = record { answer = a; shelf = s }

-- Six zero bytes at the start; 12 for under six bytes.
unfoldable pub clear : List ℕ → Left
clear s =
    cond (ltb (length s) header) (unchanged s (answer.refused 12))
    (record { answer = answer.gives 0; shelf = over s 0 end_bytes })

-- A record over the end record behind the records rs, and a new end record; 15 where these do not fit.
unfoldable pub append : List ℕ → List (List ℕ) → List ℕ → Left
append s rs r =
    cond (ltb (length s) (length (flatten rs) + length r + header)) (unchanged s (answer.refused 15))
    (record { answer = answer.gives (length rs); shelf = over s (length (flatten rs)) (r ++ end_bytes) })

-- 12, the record's refusal or break, 15.
unfoldable pub load : List ℕ → List ℕ → Left
load s r =
    elim (walk s) [
      | none ↦ unchanged s (answer.refused 12)
      | some rs ↦
          elim (verdict r) [
            | pass ↦ append s rs r
            | refused k ↦ unchanged s (answer.refused k)
            | breaks v ↦ unchanged s (answer.breaks v)
          ]
    ]

-- A record passes Check.
unfoldable pub passes : List ℕ → Bool
passes r = elim (verdict r) [ pass ↦ true | refused k ↦ false | breaks v ↦ false ]

-- 9, 10, 11, 15.
unfoldable pub append_joined : List ℕ → List (List ℕ) → List ℕ → List ℕ → Left
append_joined s rs a b =
    elim (obstacle a b) [ none ↦ append s rs (joined a b) | some o ↦ unchanged s (obstacle_answer o) ]

-- 14 for the first record, then for the second.
unfoldable pub hookup_of : List ℕ → List (List ℕ) → List ℕ → List ℕ → Left
hookup_of s rs a b =
    cond (passes a) (cond (passes b) (append_joined s rs a b) (unchanged s (answer.refused 14)))
    (unchanged s (answer.refused 14))

-- 12, 13 for i and then for j, and the rest.
unfoldable pub hookup : List ℕ → ℕ → ℕ → Left
hookup s i j =
    elim (walk s) [
      | none ↦ unchanged s (answer.refused 12)
      | some rs ↦
          cond (leb (length rs) i) (unchanged s (answer.refused 13))
          (cond (leb (length rs) j) (unchanged s (answer.refused 13)) (hookup_of s rs (get_or rs i []) (get_or rs j [])))
    ]
