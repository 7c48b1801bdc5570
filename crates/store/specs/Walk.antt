-- The walk over a shelf (document 01, "The shelf"): it reads a length and a kind and skips 6 + L bytes; kind 0 with L
-- = 0 is the end.
use Rattle.std.specs.Prelude.{ℕ, zero, suc, ◌+◌, ◌&&◌, cond, List, [], ◌∷◌, ltb, eqb, length, take, drop}
use Rattle.std.proofs.Math.Option.{Option, none, some, map}
use Rattle.part.specs.Format.{header}
use Rattle.part.specs.Record.{body_length, kind}

-- What stands at the start of some bytes: the end record, a record of so many bytes, or neither.
pub data Front : Type 0 where
  end_record : Front
  record_of : ℕ → Front
  neither : Front

-- Neither, where fewer than six bytes are left or the record runs past them.
unfoldable pub front : List ℕ → Front
front s =
    cond (ltb (length s) header) neither
    (cond (eqb (kind s) 0 && eqb (body_length s) 0) end_record
    (cond (ltb (length s) (header + body_length s)) neither (record_of (header + body_length s))))

-- The records before the end record, or none where there is no end record. At most so many are looked at.
unfoldable pub walk_at_most : ℕ → List ℕ → Option (List (List ℕ))
walk_at_most zero s = none
walk_at_most (suc k) s =
    elim (front s) [
      | end_record ↦ some []
      | neither ↦ none
      | record_of n ↦ map (λ (rs : List (List ℕ)). take n s ∷ rs) (walk_at_most k (drop n s))
    ]

-- Each record has a byte, so that no walk has more records than there are bytes.
unfoldable pub walk : List ℕ → Option (List (List ℕ))
walk s = walk_at_most (suc (length s)) s

-- The records that a walk finds; none where it finds no end record.
unfoldable pub records : List ℕ → List (List ℕ)
records s = elim (walk s) [ none ↦ [] | some rs ↦ rs ]
