-- The laws of bytes laid over a list.
use Prim.Native.Nat.{ℕ, suc, ◌+◌, ◌*◌, ◌/◌, ◌^◌, ◌≤◌, ◌<◌}
use mathlib.Core.Path.{◌≡◌, refl, sym, ap, ◌∙◌}
use mathlib.Core.List.{List, [], ◌∷◌, ◌++◌, append_assoc}
use native.Mathlib.Nat.{ne_of_lt, zero-add, add-zero, le-add_right}
use native.Mathlib.Numerals.{add-one}
use native.Mathlib.Omega.{arith}
use lib.ListN.{length, get_or, take, drop, set, length-append, drop_of_length-le, take-append-drop}
use lib.Seq.{sets, sets-eq, length-sets, set_comm, drop-cons, take_at, drop_at, length-take-le, take-set-le}
use lib.Seq.{drop-set-add, drop-drop}
use Rattle.bounded.specs.Search.{each}
use Rattle.words.specs.LittleEndian.{digits}
use Rattle.words.specs.Laid.{over, Laid}
use Rattle.words.proofs.LittleEndian.{length_digits, length-each, digits-split}

pub length_over : (out : List ℕ) (at : ℕ) (a : List ℕ) → length (over out at a) ≡ length out
unfolding over
length_over = length-sets

pub over_nothing : (out : List ℕ) (at : ℕ) → over out at [] ≡ out
unfolding over
over_nothing out at = refl

-- Two pieces one behind the other.
pub over-append : (out : List ℕ) (at : ℕ) (a b : List ℕ) → over out at (a ++ b) ≡ over (over out at a) (at + length a) b
unfolding over
over-append out at [] b = ap (λ (k : ℕ). sets out k b) (sym (add-zero at))
over-append out at (x ∷ a) b =
    let e : suc at + length a ≡ at + suc (length a) = omega arith in
    over-append _ _ a b ∙ rw e

-- A byte behind the piece may be stored before it.
pub over-set : (out : List ℕ) (at : ℕ) (a : List ℕ) (k x : ℕ) → at + length a ≤ k
    → set (over out at a) k x ≡ over (set out k x) at a
unfolding over
over-set out at [] k x h = refl
over-set out at (y ∷ a) k x h =
    over-set (set out at y) (suc at) a k x (omega arith)
    ∙ rw (set_comm out at k y x (ne_of_lt (omega arith)))

pub over_one : (out : List ℕ) (at x : ℕ) → over out at (x ∷ []) ≡ set out at x
unfolding over
over_one out at x = refl

pub over_last : (out : List ℕ) (at : ℕ) (a : List ℕ) (x : ℕ)
    → over out at (a ++ (x ∷ [])) ≡ over (set out (at + length a) x) at a
over_last out at a x =
    over-append _ at a (x ∷ []) ∙ over_one _ _ x ∙ over-set _ at a (at + length a) x (omega arith)

pub over-start : (out a : List ℕ) → length a ≤ length out → over out 0 a ≡ a ++ drop (length a) out
unfolding over
over-start out a h = sets-eq a out 0 (omega arith) ∙ rw (zero-add (length a))

-- A piece laid over the part of a list from place k on is laid over the list, k places on.
pub over-part : (out : List ℕ) (k at : ℕ) (a : List ℕ) → take k out ++ over (drop k out) at a ≡ over out (k + at) a
unfolding over
over-part out k at [] = take-append-drop k _
over-part out k at (x ∷ a) =
    let stored = set out (k + at) x in
    let e : k + suc at ≡ suc (k + at) = omega arith in
    rw (← take-set-le k _ (k + at) x (le-add_right k at), ← drop-set-add k out at x) (over-part stored k _ a
    ∙ ap (λ (i : ℕ). sets stored i a) e)

-- A part of the list, replaced by as many bytes.
pub over-replaced : (out : List ℕ) (at k : ℕ) (a : List ℕ) → k ≡ length a → at + length a ≤ length out
    → take at out ++ (a ++ drop k (drop at out)) ≡ over out at a
unfolding over
over-replaced out at k a e h =
    ap (λ (n : ℕ). take at out ++ (a ++ drop n (drop at out))) e
    ∙ ap (λ (rest : List ℕ). take at out ++ (a ++ rest)) (drop-drop (length a) at out)
    ∙ sym (sets-eq a out at h ∙ append_assoc (take at out) a (drop (at + length a) out))

-- A number in two parts, its low bytes first.
pub over-digits : (out : List ℕ) (at j k v : ℕ)
    → over (over out at (digits j v)) (at + j) (digits k (v / 256 ^ j)) ≡ over out at (digits (j + k) v)
over-digits out at j k v =
    ap (λ (i : ℕ). over (over out at (digits j v)) (at + i) (digits k (v / 256 ^ j))) (sym (length_digits j v))
    ∙ sym (over-append _ at (digits j v) (digits k _))
    ∙ ap (over out at) (sym (digits-split j k v))

-- ---- the turns of the loops

-- A word, from its first byte on: one byte more.
pub word_turn : (out bytes : List ℕ) (at i : ℕ) → i < length bytes
    → over (set out (at + i) (get_or bytes i 0)) (at + (i + 1)) (drop (i + 1) bytes) ≡ over out (at + i) (drop i bytes)
unfolding over
word_turn out bytes at i h =
    let e : at + (i + 1) ≡ suc (at + i) = omega arith in
    rw (e, add-one i) (ap (sets out (at + i)) (sym (drop-cons bytes i 0 h)))

pub word_end : (out bytes : List ℕ) (at i : ℕ) → length bytes ≤ i → over out (at + i) (drop i bytes) ≡ out
unfolding over
word_end out bytes at i h = ap (sets out (at + i)) (drop_of_length-le bytes h)

-- Pieces of k bytes each: one piece more.
pub each_turn : (out : List ℕ) (at n k : ℕ) (chunk : ℕ → List ℕ) → ((i : ℕ) → i < n → length (chunk i) ≡ k)
    → over (over out at (each n chunk)) (at + n * k) (chunk n) ≡ over out at (each (n + 1) chunk)
unfolding each
each_turn out at n k chunk h =
    ap (λ (i : ℕ). over (over out at (each n chunk)) (at + i) (chunk n)) (sym (length-each n k _ h))
    ∙ sym (over-append _ at (each n chunk) (chunk n))
    ∙ ap (λ (i : ℕ). over out at (each i chunk)) (sym (add-one n))

pub nothing_laid : (out : List ℕ) (at : ℕ) (piece : ℕ → List ℕ) → out ≡ over out at (each 0 piece)
unfolding each over
nothing_laid out at piece = refl

-- One piece more is laid behind s pieces of k bytes each.
pub piece-turn : (out : List ℕ) (at s k : ℕ) (piece : ℕ → List ℕ) → ((x : ℕ) → length (piece x) ≡ k)
    → {before next bytes : List ℕ} {place : ℕ} → before ≡ over out at (each s piece) → place ≡ s * k → bytes ≡ piece s
    → next ≡ over before (at + place) bytes → next ≡ over out at (each (s + 1) piece)
piece-turn out at s k piece long laid there is e = e ∙ rw (laid, there, is) (each_turn out at s k piece (λ x l. long x))

-- ---- pieces

-- The law of Laid: two pieces one behind the other are laid as one.
pub then : {d e f a b : List ℕ} {at m k : ℕ} → Laid d at a e m → Laid e m b f k → Laid d at (a ++ b) f k
then {d} {e} {f} {a} {b} {at} {m} {k} p q =
    let first = p.text in
    let place = p.behind in
    let second = q.text in
    let both = over-append d at a b in
    record { text = cc; behind = omega (arith, length-append a b) }

-- What is laid at the start is the front of the list, and the rest stays.
pub laid_start : {d a e : List ℕ} {r : ℕ} → Laid d 0 a e r → r ≤ length d → (r ≡ length a) × (e ≡ a ++ drop r d)
laid_start {d} {a} {e} {r} p h =
    let text = p.text in
    let count : r ≡ length a = p.behind ∙ zero-add (length a) in
    let front = over-start d a (omega arith) in
    (count, cc)

-- What lies before the bytes that were laid stays.
pub laid_before : {d a e : List ℕ} {at r : ℕ} → Laid d at a e r → at + length a ≤ length d → take at e ≡ take at d
unfolding over
laid_before {d} {a} {e} {at} p h =
    ap (take at) (p.text ∙ sets-eq a d at h ∙ append_assoc (take at d) a (drop (at + length a) d))
    ∙ take_at (take at d) (a ++ drop (at + length a) d) at (length-take-le at d (omega arith))

-- What lies behind the n bytes that were laid stays.
pub laid_kept : {d a e : List ℕ} {at r : ℕ} (n : ℕ) → Laid d at a e r → length a ≡ n → at + n ≤ length d
    → drop (at + n) e ≡ drop (at + n) d
unfolding over
laid_kept {d} {a} {e} {at} n p q h =
    let front : length (take at d ++ a)
    ≡ at + n = omega (arith, length-append (take at d) a, length-take-le at d (omega arith)) in
    ap (drop (at + n)) (p.text ∙ sets-eq a d at (omega arith))
    ∙ drop_at (take at d ++ a) (drop (at + length a) d) (at + n) front
    ∙ rw q
