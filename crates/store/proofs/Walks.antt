-- A walk finds exactly the accepted records that stand one behind the other before an end record.
use Prim.Native.Nat.{ℕ, ◌+◌, ◌-◌}
use mathlib.Core.Path.{◌≡◌, sym, ap, ◌∙◌}
use mathlib.Core.Bool.{false}
use mathlib.Core.Logic.{⊎_elim}
use mathlib.Core.List.{List, [], ◌∷◌, ◌++◌, flatten, append_assoc}
use mathlib.Core.Option.{some, map}
use native.Mathlib.Omega.{arith}
use lib.ListN.{length, length-append}
use lib.Seq.{take-append_seam, drop-append_seam}
use lib.Dec.{eqb}
use borrow.Author.Tests.{le-ltb, ne_eqb}
use Rattle.words.specs.LittleEndian.{number}
use Rattle.words.proofs.LittleEndian.{number-inside}
use Rattle.part.specs.Record.{body_length, kind}
use Rattle.screening.specs.Rejections.{Accepted}
use Rattle.screening.proofs.Accepted.{in_frame, not-too_short, not-wrong_length, not-wrong_kind}
use Rattle.screening.proofs.Rejections.{long, rest, kind_is}
use Rattle.store.specs.Walk.{end_record, record_of, front, walk}
use Rattle.store.specs.Calls.{end_bytes}
use Rattle.store.proofs.Each.{Each}
use Rattle.store.proofs.Steps.{walk_end, walk-record}

-- ---- what stands at the start

pub end_front : (more : List ℕ) → front (end_bytes ++ more) ≡ end_record
unfolding front end_bytes kind body_length number
end_front more = rw (le-ltb (length (end_bytes ++ more)) 6 (omega arith))

pub front-accepted : (r more : List ℕ) → Accepted r → front (r ++ more) ≡ record_of (length r)
unfolding front kind body_length
front-accepted r more accepted =
    let a = in_frame r accepted in
    let six = long r (not-too_short r a) in
    let body : number 4 (r ++ more) 0 ≡ length r - 6 =
    number-inside 4 r more 0 (omega arith) ∙ rest r (not-wrong_length r a) in
    let same_kind : number 2 (r ++ more) 4 ≡ kind r = number-inside 2 r more 4 (omega arith) in
    let is-part : eqb (number 2 (r ++ more) 4) 0 ≡ false =
    ne_eqb (number 2 (r ++ more) 4) 0 (λ z.
    let none : kind r ≡ 0 = sym same_kind ∙ z in
    ⊎_elim (λ e. omega arith) (⊎_elim (λ e. omega arith) (λ e. omega arith)) (kind_is r (not-wrong_kind r a))) in
    let all = length-append r more in
    rw (
      le-ltb (length (r ++ more)) 6 (omega arith),
      is-part,
      body,
      le-ltb (length (r ++ more)) (6 + (length r - 6)) (omega arith),
    )
    (ap record_of (omega arith))

-- ---- the walk

-- An accepted record at the start is the first that the walk finds.
pub walk-accepted : (r more : List ℕ) → Accepted r
    → walk (r ++ more) ≡ map (λ (rs : List (List ℕ)). r ∷ rs) (walk more)
walk-accepted r more a =
    walk-record (r ++ more) (length r) (front-accepted r more a)
    ∙ rw (take-append_seam r more, drop-append_seam r more)

-- ---- records one behind the other

-- The walk finds exactly the accepted records that stand before an end record.
pub walk-records : (rs : List (List ℕ)) (more : List ℕ) → Each Accepted rs
    → walk (flatten rs ++ end_bytes ++ more) ≡ some rs
unfolding flatten
walk-records [] more a = walk_end (end_bytes ++ more) (end_front more)
walk-records (r ∷ rs) more a =
    ap walk (ap (λ (l : List ℕ). l ++ more) (append_assoc r (flatten rs) end_bytes) ∙ append_assoc r
    (flatten rs ++ end_bytes) more)
    ∙ walk-accepted r (flatten rs ++ end_bytes ++ more) a.0
    ∙ ap (map (λ (rs : List (List ℕ)). r ∷ rs)) (walk-records rs more a.1)
