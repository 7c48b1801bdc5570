-- The cases of `load_of` and of `operation`.
use Prim.Native.Nat.{ℕ, zero, suc, ◌+◌, ◌-◌, ◌≤◌, ◌<◌}
use mathlib.Core.Path.{◌≡◌, refl, sym, ap, ◌∙◌}
use mathlib.Core.Bool.{Bool, true, false, cond}
use mathlib.Core.List.{List, [], ◌∷◌}
use native.Mathlib.Decide.{dec_lt}
use native.Mathlib.Omega.{arith}
use lib.Dec.{ltb, eqb}
use lib.ListN.{length, get_or, take, drop, length-drop}
use lib.Seq.{length-take-le, take_all}
use borrow.Author.Tests.{lt-ltb, le-ltb, ltb-true, ltb-false, eqb-false, ne_eqb}
use Rattle.words.specs.LittleEndian.{byte, number}
use Rattle.script.specs.declared.operation.Call as call
use Rattle.script.specs.declared.operation.Operation as code
use Rattle.script.specs.declared.operation.Operation.TheVariants.{Call, Count, Part}
use Rattle.script.specs.declared.operation.Stop.{Stop}
use Rattle.script.specs.declared.operation.Stop.TheVariants.{Truncated, Unknown}
use Rattle.script.specs.Answers.{operation_of_call, operation_of, stop_of}
use Rattle.script.specs.Operation.{Operation, clear, load, hookup, count, part, ended, truncated, unknown}
use Rattle.script.specs.Operation.{sizes, load_of, call, operation, size}
use Rattle.script.specs.Sequence.{operations_at_most, operations}

pub load_past : (s : List ℕ) (n : ℕ) → n ≡ number 4 s 1 → length s < 5 + n → load_of s ≡ truncated
unfolding load_of
load_past s n e h = rw (← e, lt-ltb _ _ h)

pub load_short : (s : List ℕ) → length s < 5 → load_of s ≡ truncated
load_short s h = load_past s (number 4 s 1) refl (omega arith)

pub load-whole : (s : List ℕ) (n : ℕ) → n ≡ number 4 s 1 → 5 + n ≤ length s → load_of s ≡ load (take n (drop 5 s))
unfolding load_of
load-whole s n e h = rw (← e, le-ltb _ _ h)

pub ended_is : (s : List ℕ) → length s < 1 → operation s ≡ ended
unfolding operation
ended_is s h = rw (lt-ltb _ _ h)

-- The first byte is b.
module _ (s : List ℕ) (b : ℕ) (some : 1 ≤ length s) (is : b ≡ byte s 0) where
  pub unknown_is : 4 < b → operation s ≡ unknown
  unfolding operation
  unknown_is h = rw (← is, le-ltb _ _ some, lt-ltb _ _ h)

  pub truncated_is : b ≤ 4 → length s < get_or sizes b 0 → operation s ≡ truncated
  unfolding operation
  truncated_is h past = rw (← is, le-ltb _ _ some, le-ltb _ _ h, lt-ltb _ _ past)

  pub call_is : b ≤ 4 → get_or sizes b 0 ≤ length s → operation s ≡ call b s
  unfolding operation
  call_is h fits = rw (← is, le-ltb _ _ some, le-ltb _ _ h, le-ltb _ _ fits)

-- Each operation, by its first byte.
module _ (s : List ℕ) (some : 1 ≤ length s) where
  pub clear_is : 0 ≡ byte s 0 → operation s ≡ clear
  unfolding call
  clear_is is = call_is s 0 some is (omega arith) (omega arith)

  pub load_is : 1 ≡ byte s 0 → operation s ≡ load_of s
  unfolding call
  load_is is =
      elim (dec_lt (length s) 5) [
        | yes short ↦ truncated_is s 1 some is (omega arith) short ∙ sym (load_short s short)
        | no whole ↦ call_is s 1 some is (omega arith) (omega arith)
      ]

  pub hookup_is : (i j : ℕ) → 2 ≡ byte s 0 → 9 ≤ length s → i ≡ number 4 s 1 → j ≡ number 4 s 5
      → operation s ≡ hookup i j
  unfolding call
  hookup_is i j is whole e f = rw (e, f) (call_is s 2 some is (omega arith) whole)

  pub count_is : 3 ≡ byte s 0 → operation s ≡ count
  unfolding call
  count_is is = call_is s 3 some is (omega arith) (omega arith)

  pub part_is : (i : ℕ) → 4 ≡ byte s 0 → 5 ≤ length s → i ≡ number 4 s 1 → operation s ≡ part i
  unfolding call
  part_is i is whole e = rw e (call_is s 4 some is (omega arith) whole)

pub ruleset readings = (load_past, load-whole)

pub ruleset kinds = (clear_is, load_is, hookup_is, count_is, part_is, truncated_is, unknown_is)

-- Load's record is as long as its number says.
record-length : (s : List ℕ) (n : ℕ) → 5 + n ≤ length s → length (take n (drop 5 s)) ≡ n
record-length s n h = length-take-le n (drop 5 s) (omega (arith, length-drop 5 s))

-- ---- what stands at the start

-- The operation at the start of s, whole.
pub data Stands (s : List ℕ) : Operation → Type 0 where
  a_clear : 1 ≤ length s → Stands s clear
  a_load : (n : ℕ) → 5 + n ≤ length s → Stands s (load (take n (drop 5 s)))
  a_hookup : (i j : ℕ) → 9 ≤ length s → Stands s (hookup i j)
  a_count : 1 ≤ length s → Stands s count
  a_part : (i : ℕ) → 5 ≤ length s → Stands s (part i)
  at_end : length s < 1 → Stands s ended
  cut_off : Stands s truncated
  another : Stands s unknown

module _ (s : List ℕ) where
  load-stands : Stands s (load_of s)
  unfolding load_of
  load-stands = go (ltb (length s) (5 + number 4 s 1)) refl
    where
      go : (past : Bool) → ltb (length s) (5 + number 4 s 1) ≡ past
          → Stands s (cond past truncated (load (take (number 4 s 1) (drop 5 s))))
      go true p = cut_off
      go false p = a_load (number 4 s 1) (ltb-false _ _ p)

  call-stands : (b : ℕ) → b ≤ 4 → get_or sizes b 0 ≤ length s → Stands s (call b s)
  unfolding call
  call-stands zero l fits = a_clear fits
  call-stands (suc zero) l fits = load-stands
  call-stands (suc (suc zero)) l fits = a_hookup (number 4 s 1) (number 4 s 5) fits
  call-stands (suc (suc (suc zero))) l fits = a_count fits
  call-stands (suc (suc (suc (suc zero)))) l fits = a_part (number 4 s 1) fits
  call-stands (suc (suc (suc (suc (suc b))))) l fits = absurd (omega arith)

  pub stands : Stands s (operation s)
  unfolding operation
  stands = go (ltb (length s) 1) refl (ltb 4 (byte s 0)) refl (ltb (length s) (get_or sizes (byte s 0) 0)) refl
    where
      go : (empty : Bool) → ltb (length s) 1 ≡ empty → (other : Bool) → ltb 4 (byte s 0) ≡ other → (past : Bool)
          → ltb (length s) (get_or sizes (byte s 0) 0) ≡ past
          → Stands s (cond empty ended (cond other unknown (cond past truncated (call (byte s 0) s))))
      go true p other q past r = at_end (ltb-true _ _ p)
      go false p true q past r = another
      go false p false q true r = cut_off
      go false p false q false r = call-stands (byte s 0) (ltb-false _ _ q) (ltb-false _ _ r)

  sized : {o : Operation} → Stands s o → size o ≤ length s
  unfolding size
  sized (a_clear l) = l
  sized (a_load n l) = omega (arith, record-length s n l)
  sized (a_hookup i j l) = l
  sized (a_count l) = l
  sized (a_part i l) = l
  sized (at_end l) = omega arith
  sized cut_off = omega arith
  sized another = omega arith

  -- An operation takes no more bytes than there are.
  pub size-within : size (operation s) ≤ length s
  size-within = sized stands

-- What callers of decode know of the start of a script.
pub ruleset starts = (ended_is, size-within)

-- ---- one operation behind the other

-- Any number of them that is not below that of the bytes is enough.
-- What follows an operation does not depend on how many may, where it does not for the bytes behind it.
same_rest : (n m : ℕ) (s : List ℕ) (k : ℕ) → k ≤ length s
    → ((t : List ℕ) → length t < length s → operations_at_most n t ≡ operations_at_most m t)
    → (stops : Bool) → eqb k 0 ≡ stops
    → cond stops [] (operations_at_most n (drop k s)) ≡ cond stops [] (operations_at_most m (drop k s))
same_rest n m s k fits same true e = refl
same_rest n m s k fits same false e =
    let some = eqb-false k 0 e in
    same (drop k s) (omega (arith, length-drop k s))

enough : (n m : ℕ) (s : List ℕ) → length s ≤ n → length s ≤ m → operations_at_most n s ≡ operations_at_most m s
unfolding operations_at_most
enough zero zero s p q = refl
enough zero (suc m) s p q = rw (lt-ltb (length s) 1 (omega arith)) refl
enough (suc n) zero s p q = rw (lt-ltb (length s) 1 (omega arith)) refl
enough (suc n) (suc m) s p q =
    ap (λ (os : List Operation). cond (ltb (length s) 1) [] (operation s ∷ os))
    (same_rest n m s (size (operation s)) (size-within s)
    (λ t less. enough n m t (omega arith) (omega arith)) (eqb (size (operation s)) 0) refl)

pub operations-end : (s : List ℕ) → length s < 1 → operations s ≡ []
unfolding operations operations_at_most
operations-end [] h = refl
operations-end (b ∷ s) h = absurd (omega arith)

-- The first, and those behind it unless they stop at it.
pub operations-first : (s : List ℕ) → 1 ≤ length s
    → operations s
    ≡ operation s ∷ cond (eqb (size (operation s)) 0) [] (operations (drop (size (operation s)) s))
unfolding operations operations_at_most
operations-first [] some = absurd (omega arith)
operations-first (b ∷ s) some =
    let k = size (operation (b ∷ s)) in
    let m = length (drop k (b ∷ s)) in
    rw (le-ltb (suc (length s)) 1 (omega arith))
    (ap (λ (os : List Operation). operation (b ∷ s) ∷ os) (rest k m refl (eqb k 0) refl))
  where
    rest : (k m : ℕ) → m ≡ length (drop k (b ∷ s)) → (stops : Bool) → eqb k 0 ≡ stops
        → cond stops [] (operations_at_most (length s) (drop k (b ∷ s)))
        ≡ cond stops [] (operations_at_most m (drop k (b ∷ s)))
    rest k m size true e = refl
    rest k m size false e =
        let some = eqb-false k 0 e in
        let behind = length-drop k (b ∷ s) in
        enough (length s) m (drop k (b ∷ s)) (omega arith) (omega arith)

pub operations-next : (s : List ℕ) → 0 < size (operation s)
    → operations s ≡ operation s ∷ operations (drop (size (operation s)) s)
operations-next s some =
    operations-first s (omega (arith, size-within s)) ∙ rw (ne_eqb (size (operation s)) 0 (λ e. omega arith)) refl

operations-stop : (s : List ℕ) → 1 ≤ length s → size (operation s) ≡ 0 → operations s ≡ operation s ∷ []
operations-stop s some none = operations-first s some ∙ rw none refl

-- There are no more of them than bytes.
unless : (b : Bool) (n : ℕ) (os : List Operation) → length os ≤ n → length (cond b [] os) ≤ n
unless true n os h = omega arith
unless false n os h = h

most_operations : (n : ℕ) (s : List ℕ) → length (operations_at_most n s) ≤ n
unfolding operations_at_most
most_operations zero s = omega arith
most_operations (suc n) s =
    let behind = most_operations n (drop (size (operation s)) s) in
    unless (ltb (length s) 1) (suc n) _
    (let more = unless (eqb (size (operation s)) 0) n _ behind in omega arith)

pub length-operations : (s : List ℕ) → length (operations s) ≤ length s
unfolding operations
length-operations s = most_operations (length s) s

-- ---- as the code reads them

takes_some : (o : code.Operation) → 0 < size (operation_of o)
unfolding size operation_of operation_of_call
takes_some (Call call.TheVariants.Clear) = omega arith
takes_some (Call (call.TheVariants.Load r)) = omega arith
takes_some (Call (call.TheVariants.Hookup i j)) = omega arith
takes_some Count = omega arith
takes_some (Part i) = omega arith

pub operations-read : (s : List ℕ) (o : code.Operation) (k : ℕ) → operation_of o ≡ operation s
    → k ≡ size (operation_of o) → operations s ≡ operation_of o ∷ operations (take (length s - k) (drop k s))
operations-read s o k is so =
    let some = takes_some o in
    let first = operations-next s (rw is at some) in
    let behind : take (length s - k) (drop k s) ≡ drop k s = take_all _ _ (omega (arith, length-drop k s)) in
    rw (behind, so, is) first

-- Nothing stands only where no byte is left.
ended_only : (s : List ℕ) {o : Operation} → Stands s o → o ≡ ended → length s < 1
ended_only s (a_clear l) e = let z : ◌≡◌ {A = ℕ} 0 1 = cc in absurd (omega arith)
ended_only s (a_load n l) e = let z : ◌≡◌ {A = ℕ} 0 1 = cc in absurd (omega arith)
ended_only s (a_hookup i j l) e = let z : ◌≡◌ {A = ℕ} 0 1 = cc in absurd (omega arith)
ended_only s (a_count l) e = let z : ◌≡◌ {A = ℕ} 0 1 = cc in absurd (omega arith)
ended_only s (a_part i l) e = let z : ◌≡◌ {A = ℕ} 0 1 = cc in absurd (omega arith)
ended_only s (at_end l) e = l
ended_only s cut_off e = let z : ◌≡◌ {A = ℕ} 0 1 = cc in absurd (omega arith)
ended_only s another e = let z : ◌≡◌ {A = ℕ} 0 1 = cc in absurd (omega arith)

pub operations-none : (s : List ℕ) → ended ≡ operation s → operations s ≡ []
operations-none s is = operations-end s (ended_only s (stands s) (sym is))

some_byte : (s : List ℕ) → (operation s ≡ ended → ⊥) → 1 ≤ length s
some_byte s not =
    elim (dec_lt (length s) 1) [ yes none ↦ absurd (not (ended_is s none)) | no some ↦ omega arith ]

ended_not_truncated : truncated ≡ ended → ⊥
ended_not_truncated z = cc

ended_not_unknown : unknown ≡ ended → ⊥
ended_not_unknown z = cc

pub operations-stops : (s : List ℕ) (e : Stop) → stop_of e ≡ operation s → operations s ≡ stop_of e ∷ []
unfolding stop_of size
operations-stops s Truncated is = rw is (operations-stop s (some_byte s (λ e. let z : ◌≡◌ {A = Operation} truncated ended = is ∙ e in ended_not_truncated z)) (rw (← is) refl))
operations-stops s Unknown is = rw is (operations-stop s (some_byte s (λ e. let z : ◌≡◌ {A = Operation} unknown ended = is ∙ e in ended_not_unknown z)) (rw (← is) refl))

pub ruleset nexts = (operations-none, operations-end, operations-read, operations-stops)
