-- What Hookup leaves, case by case: the joined record over the end record, or the shelf as it was.
use Prim.Native.Nat.{ℕ, ◌+◌, ◌≤◌, ◌<◌}
use mathlib.Core.Path.{◌≡◌, refl, sym, ap, ◌∙◌}
use mathlib.Core.Bool.{true, false}
use mathlib.Core.List.{List, [], ◌++◌, flatten}
use mathlib.Core.Option as math
use mathlib.Core.Option.{none, some}
use native.Mathlib.Nat.{add-zero, zero-add}
use native.Mathlib.Omega.{arith}
use native.Mathlib.Decide.{dec_lt}
use lib.ListN.{length, take, drop, get_or, length-drop, take-append-drop}
use borrow.Author.Tests.{lt-ltb, le-ltb, le-leb, lt-leb}
use Rattle.bounded.proofs.Search.{true_not_false}
use Rattle.words.specs.Laid.{over}
use Rattle.words.proofs.LaidLaws.{over-append, over-part}
use Rattle.restrictive.specs.Verdict.{Verdict, pass, refused, breaks, verdict}
use Rattle.composite.specs.Joined.{joined}
use Rattle.composite.specs.Joining.{Obstacle, obstacle}
use Rattle.store.specs.Answer as answer
use Rattle.store.specs.Answer.{obstacle_answer}
use Rattle.store.specs.Walk.{walk, records}
use Rattle.store.specs.Leading.{leading}
use Rattle.store.specs.Reading.{part}
use Rattle.store.proofs.Leading.{leading-before}
use Rattle.store.specs.Found.{Ends, append_behind, joined_behind}
use Rattle.store.specs.Calls.{end_bytes, Left, append, append_joined, passes, hookup_of, hookup}

-- ---- a record that passes

pub passes-pass : (r : List ℕ) → true ≡ passes r → verdict r ≡ pass
unfolding passes
passes-pass r e = go (verdict r) refl
  where
    go : (v : Verdict) → verdict r ≡ v → verdict r ≡ pass
    go pass q = q
    go (refused k) q = absurd (true_not_false (sym e) (rw (q, passes) refl))
    go (breaks v) q = absurd (true_not_false (sym e) (rw (q, passes) refl))

-- ---- a record over the end record

-- A call leaves this answer, and this shelf.
abbrev pub Leaves : Left → answer.Answer → List ℕ → Type 0
Leaves l a s = (a ≡ l.answer) × (s ≡ l.shelf)

module _ (n : ℕ) (back a b : List ℕ) where
  pub joined-stopped : {o : Obstacle} → obstacle a b ≡ some o
      → Leaves (joined_behind n back a b) (obstacle_answer o) back
  unfolding joined_behind
  joined-stopped e = rw (e, joined_behind) (refl, refl)

  pub joined_full : obstacle a b ≡ none → length back < length (joined a b) + 6
      → Leaves (joined_behind n back a b) (answer.refused 15) back
  unfolding joined_behind append_behind
  joined_full e h = rw (e, joined_behind, lt-ltb _ _ h) (refl, refl)

  pub joined-room : {t : List ℕ} → obstacle a b ≡ none → length (joined a b) + 6 ≤ length back
      → t ≡ over back 0 (joined a b ++ end_bytes)
      → Leaves (joined_behind n back a b) (answer.gives n) t
  unfolding joined_behind append_behind
  joined-room e h q = rw (e, joined_behind, le-ltb _ _ h) (refl, q)

-- A record at the start, and an end record behind it.
pub laid_behind : (back r : List ℕ) {t : List ℕ} {k : ℕ} → t ≡ over back 0 r → k ≡ length r
    → over t k end_bytes ≡ over back 0 (r ++ end_bytes)
laid_behind back r {t} {k} e h =
    rw (e, h)
    (ap (λ (n : ℕ). over (over back 0 r) n end_bytes) (sym (zero-add (length r)))
    ∙ sym (over-append back 0 r end_bytes))

-- What is left from the end record on is left on the shelf.
module _ (s : List ℕ) {n at : ℕ} (w : Ends s n at) where
  append-whole : (r : List ℕ)
      → Leaves (append s (records s) r) (append_behind n (drop at s) r).answer
      (take at s ++ (append_behind n (drop at s) r).shelf)
  unfolding append_behind append
  append-whole r =
      let left = length-drop at s in
      let place = w.place in
      let within = w.within in
      elim (dec_lt (length s) (length (flatten (records s)) + length r + 6)) [
        | yes l ↦
            rw (lt-ltb _ _ l, lt-ltb (length (drop at s)) (length r + 6) (omega arith)) (refl, take-append-drop at s)
        | no l ↦
            rw (
              le-ltb (length s) (length (flatten (records s)) + length r + 6) (omega arith),
              le-ltb (length (drop at s)) (length r + 6) (omega arith),
              ← w.place,
            ) (
              ap answer.gives w.many,
              over-part s at 0 (r ++ end_bytes) ∙ ap (λ (k : ℕ). over s k (r ++ end_bytes)) (add-zero at),
            )
      ]

  pub joined-whole : (a b : List ℕ) {t : List ℕ} {x : answer.Answer} → Leaves (joined_behind n (drop at s) a b) x t
      → Leaves (append_joined s (records s) a b) x (take at s ++ t)
  unfolding joined_behind append_joined
  joined-whole a b {t} {x} h = go (obstacle a b) refl h
    where
      go : (o : math.Option Obstacle) → obstacle a b ≡ o → Leaves (joined_behind n (drop at s) a b) x t
          → Leaves (append_joined s (records s) a b) x (take at s ++ t)
      go none e k =
          let l = rw (e, joined_behind) at k in
          let all = append-whole (joined a b) in
          rw (e, append_joined) (l.0 ∙ all.0, ap (λ (u : List ℕ). take at s ++ u) l.1 ∙ all.1)
      go (some o) e k =
          let l = rw (e, joined_behind) at k in
          rw (e, append_joined) (l.0, ap (λ (u : List ℕ). take at s ++ u) l.1 ∙ take-append-drop at s)

-- ---- a record that is read before the end record

module _ (s : List ℕ) {n at : ℕ} (w : Ends s n at) {f : List ℕ} (before : f ≡ take at s) (k : ℕ) where
  there : leading f ≡ records s
  there = ap leading before ∙ leading-before s w

  pub stands_before : k < n → k < length (leading f)
  stands_before l = rw there (omega (arith, w.many))

  pub reads_part : {r : List ℕ} → r ≡ get_or (leading f) k [] → r ≡ part s k
  unfolding part
  reads_part e = e ∙ ap (λ (rs : List (List ℕ)). get_or rs k []) there

-- ---- Hookup

module _ (s : List ℕ) (i j : ℕ) where
  pub hookup-no_end : walk s ≡ none → Leaves (hookup s i j) (answer.refused 12) s
  unfolding hookup
  hookup-no_end e = rw (e, hookup) (refl, refl)

  module _ {n at : ℕ} (w : Ends s n at) where
    pub hookup-no-first : n ≤ i → Leaves (hookup s i j) (answer.refused 13) s
    unfolding hookup
    hookup-no-first h = rw (w.ends, hookup, le-leb (length (records s)) i (omega (arith, w.many))) (refl, refl)

    pub hookup-no-second : i < n → n ≤ j → Leaves (hookup s i j) (answer.refused 13) s
    unfolding hookup
    hookup-no-second l h =
        rw (
          w.ends,
          hookup,
          lt-leb (length (records s)) i (omega (arith, w.many)),
          le-leb (length (records s)) j (omega (arith, w.many)),
        )
        (refl, refl)

    module _ (l : i < n) (m : j < n) where
      both_parts : hookup s i j ≡ hookup_of s (records s) (part s i) (part s j)
      unfolding hookup part
      both_parts =
          rw (
            w.ends,
            hookup,
            lt-leb (length (records s)) i (omega (arith, w.many)),
            lt-leb (length (records s)) j (omega (arith, w.many)),
          )
          refl

      -- The bytes of the two records are a and b.
      module _ {a : List ℕ} (p : a ≡ part s i) where
        pub first-unfit : false ≡ passes a → Leaves (hookup s i j) (answer.refused 14) s
        unfolding hookup_of
        first-unfit f = rw (both_parts, ← p, hookup_of, ← f) (refl, refl)

        module _ {b : List ℕ} (q : b ≡ part s j) (f : true ≡ passes a) where
          pub second-unfit : false ≡ passes b → Leaves (hookup s i j) (answer.refused 14) s
          unfolding hookup_of
          second-unfit g = rw (both_parts, ← p, ← q, hookup_of, ← f, ← g) (refl, refl)

          -- What is left before the end record, and from there on.
          pub both_fit : {front back : List ℕ} → front ≡ take at s → back ≡ drop at s → true ≡ passes b
              → (x : answer.Answer) (t : List ℕ)
              → Leaves (joined_behind n back a b) x t
              → Leaves (hookup s i j) x (front ++ t)
          unfolding hookup_of
          both_fit u v g x t h =
              rw (both_parts, ← p, ← q, hookup_of, ← f, ← g, u) (joined-whole s w a b (rw v at h))
