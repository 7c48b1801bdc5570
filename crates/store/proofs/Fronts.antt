-- What stands at the start of some bytes, by the fields that are read there.
use Prim.Native.Nat.{ℕ, ◌+◌, ◌≤◌, ◌<◌}
use mathlib.Core.Path.{◌≡◌, refl, sym, ap, ◌∙◌}
use mathlib.Core.Bool.{Bool, true, false, ◌&&◌, cond}
use mathlib.Core.List.{List}
use native.Mathlib.Omega.{arith}
use lib.Dec.{ltb, eqb}
use lib.ListN.{length}
use borrow.Author.Tests.{lt-ltb, le-ltb, ltb-false}
use Rattle.words.specs.LittleEndian.{number}
use Rattle.part.specs.Record.{body_length, kind}
use Rattle.std.specs.Prelude.{Some, None}
use Rattle.store.specs.Walk.{Front, end_record, record_of, neither, front}
use Rattle.store.specs.Leading.{ends_there, size_there}

abbrev ends : List ℕ → Bool
ends s = eqb (kind s) 0 && eqb (body_length s) 0

front-short : (s : List ℕ) → length s < 6 → front s ≡ neither
unfolding front
front-short s h = rw (lt-ltb _ _ h)

-- ---- whether the end record stands there

ends-long : (s : List ℕ) → 6 ≤ length s → ends s ≡ ends_there (front s)
unfolding front
ends-long s h = rw (le-ltb _ _ h) (go (ends s) (ltb (length s) (6 + body_length s)))
  where
    go : (end past : Bool)
        → end ≡ ends_there (cond end end_record (cond past neither (record_of (6 + body_length s))))
    go true past = refl
    go false true = refl
    go false false = refl

pub no_end-short : (s : List ℕ) → length s < 6 → false ≡ ends_there (front s)
no_end-short s h = rw (front-short s h)

module _ (s : List ℕ) (h : 6 ≤ length s) {k : ℕ} (e : k ≡ number 2 s 4) where
  kind-test : eqb k 0 ≡ eqb (kind s) 0
  unfolding kind
  kind-test = ap (λ (n : ℕ). eqb n 0) e

  pub no_end-kind : eqb k 0 ≡ false → false ≡ ends_there (front s)
  no_end-kind n = ap (λ (t : Bool). t && eqb (body_length s) 0) (sym n ∙ kind-test) ∙ ends-long s h

  pub end_by_body : {l : ℕ} → eqb k 0 ≡ true → l ≡ number 4 s 0 → eqb l 0 ≡ ends_there (front s)
  unfolding body_length
  end_by_body {l} z b =
      ap (λ (n : ℕ). eqb n 0) b
      ∙ ap (λ (t : Bool). t && eqb (body_length s) 0) (sym z ∙ kind-test)
      ∙ ends-long s h

-- ---- how long the record is that stands there

pub no_size-short : (s : List ℕ) → length s < 6 → None ≡ size_there (front s)
no_size-short s h = rw (front-short s h)

pub no_size-end : (f : Front) → ends_there f ≡ true → None ≡ size_there f
no_size-end end_record e = refl
no_size-end (record_of n) e = absurd (cc)
no_size-end neither e = refl

module _ (s : List ℕ) (h : 6 ≤ length s) (e : ends_there (front s) ≡ false) {l : ℕ} (b : l ≡ number 4 s 0) where
  pub no_size-past : length s < 6 + l → None ≡ size_there (front s)
  unfolding front body_length
  no_size-past p = rw (le-ltb _ _ h, ends-long s h ∙ e, ← b, lt-ltb _ _ p)

  pub size-within : 6 + l ≤ length s → Some (6 + l) ≡ size_there (front s)
  unfolding front body_length
  size-within p = rw (le-ltb _ _ h, ends-long s h ∙ e, ← b, le-ltb _ _ p)

-- A record has its header and its body.
pub record Whole (s : List ℕ) (n : ℕ) : Type 0 where
  pub size : n ≡ 6 + body_length s
  pub within : n ≤ length s

pub record-whole : (s : List ℕ) (n : ℕ) → front s ≡ record_of n → Whole s n
unfolding front
record-whole s n e = go (ltb (length s) 6) (ends s) (ltb (length s) (6 + body_length s)) refl e
  where
    go : (short end past : Bool) → ltb (length s) (6 + body_length s) ≡ past
        → cond short neither (cond end end_record (cond past neither (record_of (6 + body_length s)))) ≡ record_of n
        → Whole s n
    go true end past p q = let z : ◌≡◌ {A = ℕ} 0 1 = cc in absurd (omega arith)
    go false true past p q = let z : ◌≡◌ {A = ℕ} 0 1 = cc in absurd (omega arith)
    go false false true p q = let z : ◌≡◌ {A = ℕ} 0 1 = cc in absurd (omega arith)
    go false false false p q =
        let fits : 6 + body_length s ≤ length s = ltb-false _ _ p in
        let size : n ≡ 6 + body_length s = cc in
        record { size = size; within = omega arith }

-- And is not the end record.
pub record-no_end : (s : List ℕ) (n : ℕ) → front s ≡ record_of n → (eqb (kind s) 0 && eqb (body_length s) 0) ≡ false
record-no_end s n e =
    let w = record-whole s n e in
    ends-long s (omega arith) ∙ ap ends_there e
