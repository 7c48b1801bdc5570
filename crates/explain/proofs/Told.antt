-- The answer of the call and the buffer after it, where eight numbers explain the verdict; and what an answered break is.
use Prim.Native.Nat.{ℕ}
use mathlib.Core.Path.{◌≡◌, refl, ap, ◌∙◌}
use mathlib.Core.Bool.{Bool, true, false, cond}
use mathlib.Core.List.{List, [], ◌∷◌}
use native.Mathlib.Omega.{arith}
use borrow.Author.Tests.{le-ltb}
use lib.Dec.{ltb}
use lib.ListN.{length, get_or}
use Rattle.bounded.specs.Search.{each}
use Rattle.words.specs.Laid.{over}
use Rattle.words.specs.LittleEndian.{digits, as_words}
use Rattle.words.proofs.LittleEndian.{length_digits, length-each}
use Rattle.restrictive.specs.Verdict.{Violation, Verdict, pass, refused, breaks, verdict, taken, told_limit}
use Rattle.explain.specs.Explanation.{numbers, explanation, no_room, explained, buffer_after}

abbrev bytes : List ℕ → List ℕ
bytes xs = each 8 (λ i. digits 8 (get_or xs i 0))

pub told : (b out xs : List ℕ) {v answer : Verdict} {after : List ℕ} → verdict b ≡ v → explanation b ≡ bytes xs
    → answer ≡ cond (ltb (length out) 64) (refused 15) v
    → after ≡ cond (ltb (length out) 64) out (over out 0 (bytes xs))
    → (answer ≡ explained b (length out)) × (after ≡ buffer_after b out)
unfolding explained buffer_after no_room
told b out xs e f a w =
    let size : length (explanation b) ≡ 64 =
    ap length f ∙ length-each 8 8 (λ i. digits 8 (get_or xs i 0)) (λ i l. length_digits 8 _) in
    (a ∙ rw (size, e) refl, w ∙ rw (size, f) refl)

-- The numbers of a break and of a pass; a refusal has none.
of_verdict : (b : List ℕ) {v : Verdict} → verdict b ≡ v → explanation b ≡ as_words (numbers v (taken b) (told_limit b))
unfolding explanation
of_verdict b e = rw e

pub of_break : (b : List ℕ) {v : Violation} {k l m : ℕ} → verdict b ≡ breaks v → k ≡ taken b → l ≡ v.level → m ≡ v.rule
    → explanation b ≡ bytes (m ∷ v.event ∷ v.s ∷ v.t ∷ v.u ∷ k ∷ l ∷ 0 ∷ [])
unfolding numbers as_words each
of_break b e p q r = of_verdict b e ∙ rw (← p, ← q, ← r) refl

pub of_pass : (b : List ℕ) {k m : ℕ} → verdict b ≡ pass → k ≡ taken b → m ≡ told_limit b
    → explanation b ≡ bytes (0 ∷ 0 ∷ 0 ∷ 0 ∷ 0 ∷ k ∷ 0 ∷ m ∷ [])
unfolding numbers as_words each
of_pass b e p q = of_verdict b e ∙ rw (← p, ← q) refl

pub told-refused : (b out : List ℕ) {k : ℕ} {answer : Verdict} → verdict b ≡ refused k → answer ≡ refused k
    → (answer ≡ explained b (length out)) × (out ≡ buffer_after b out)
unfolding explained buffer_after no_room numbers as_words each over
told-refused b out e a =
    let none = of_verdict b e in
    (rw (none, e, le-ltb (length out) 0 (omega arith)) a, rw (none, le-ltb (length out) 0 (omega arith)) refl)

-- A break that is answered is the record's own.
pub explained-breaks : (b : List ℕ) (room : ℕ) {w : Violation} → explained b room ≡ breaks w → verdict b ≡ breaks w
unfolding explained
explained-breaks b room e = go (no_room b room) e
  where
    go : (s : Bool) {w : Violation} → cond s (refused 15) (verdict b) ≡ breaks w → verdict b ≡ breaks w
    go true e = let z : ◌≡◌ {A = ℕ} 0 1 = cc in absurd (omega arith)
    go false e = e
