-- The laws of little-endian numbers: splitting, bounds, and that reading and writing undo each other.
use Prim.Native.Nat.{ℕ, zero, suc, ◌+◌, ◌-◌, ◌*◌, ◌/◌, ◌%◌, ◌^◌, ◌≤◌, ◌<◌, suc-le-suc}
use mathlib.Core.Path.{◌≡◌, refl, sym, ap, ◌∙◌, subst}
use mathlib.Core.Logic.{⊎_elim}
use mathlib.Core.List.{List, [], ◌∷◌, ◌++◌, append_assoc}
use native.Mathlib.Nat.{zero-add, suc-add, add-zero, add_assoc, pow-succ', one-mul, le_step, lt-suc_self}
use native.Mathlib.Nat.{le_of_suc-le-suc, not-suc-le-zero, eq-or-lt_of_le, zero-mul, mul-one, mul_comm, div-one}
use native.Mathlib.Nat.{div-div-eq-div-mul}
use native.Mathlib.Numerals.{add-one}
use native.Mathlib.Decide.{dec_lt}
use native.Mathlib.Omega.{arith}
use lib.ListN.{length, take, drop, length-append, get_or-eq_default, get_or-append, length-drop}
use lib.Seq.{take_at, length-take-le, drop-cons, get_or-drop, get_or-append-add, drop-append_seam, drop-drop, take-add}
use Rattle.std.proofs.lemmas.List.{get_or-take}
use Rattle.std.specs.Int.{from_le_bytes, to_le_bytes, bytes_low_first, w64}
use Rattle.bounded.specs.Search.{each}
use Rattle.bounded.proofs.Lists.{each_add}
use Rattle.words.specs.LittleEndian.{Bytes, byte, number, digits}

pub byte_lt : (b : List ℕ) → Bytes b → (i : ℕ) → byte b i < 256
byte_lt b h i = elim (dec_lt i (length b)) [ yes l ↦ h i l | no l ↦ past (get_or-eq_default b 0 (omega arith)) ]
  where
    past : byte b i ≡ 0 → byte b i < 256
    past e = omega arith

pub number-split : (j k : ℕ) (b : List ℕ) (at : ℕ) → number (j + k) b at ≡ number j b at + 256 ^ j * number k b (at + j)
unfolding number
number-split zero k b at =
    ap (λ (n : ℕ). number n b at) (zero-add k)
    ∙ ap (λ (i : ℕ). number k b i) (sym (add-zero at))
    ∙ (let r = number k b (at + 0) in omega arith)
number-split (suc j) k b at =
    let rest = number-split j k b _ in
    let shift : at + 1 + j ≡ at + suc j = omega arith in
    ap (λ (n : ℕ). number n b at) (suc-add j k)
    ∙ ap (λ (n : ℕ). byte b at + 256 * n) (rest ∙ ap (λ (i : ℕ). number j b (at + 1) + 256 ^ j * number k b i) shift)
    ∙ regroup _ _ _ _
    ∙ rw (← pow-succ' 256 j)
  where
    regroup : (a x p y : ℕ) → a + 256 * (x + p * y) ≡ a + 256 * x + 256 * p * y
    regroup a x p y = omega arith

pub number_lt : (k : ℕ) (b : List ℕ) (at : ℕ) → Bytes b → number k b at < 256 ^ k
unfolding number
number_lt zero b at h = omega arith
number_lt (suc k) b at h =
    let l = number_lt k b (at + 1) h in
    let f = byte_lt b h at in
    subst (λ (p : ℕ). byte b at + 256 * number k b (at + 1) < p) (sym (pow-succ' 256 k)) (omega arith)

-- ---- lengths

pub length_digits : (k v : ℕ) → length (digits k v) ≡ k
unfolding digits
length_digits zero v = refl
length_digits (suc k) v = ap suc (length_digits k _)

pub length-each : (n k : ℕ) (chunk : ℕ → List ℕ) → ((i : ℕ) → i < n → length (chunk i) ≡ k)
    → length (each n chunk) ≡ n * k
unfolding each
length-each zero k chunk h = omega arith
length-each (suc n) k chunk h =
    let front = length-each n k chunk (λ i l. h i (le_step l)) in
    let last = h n (lt-suc_self n) in
    length-append (each n chunk) (chunk n) ∙ omega arith

-- ---- reading

-- A number is read alike wherever the same bytes stand.
pub number_same : (k : ℕ) (b c : List ℕ) (at to : ℕ) → ((i : ℕ) → i < k → byte b (at + i) ≡ byte c (to + i))
    → number k b at ≡ number k c to
unfolding number
number_same zero b c at to h = refl
number_same (suc k) b c at to h =
    let first : byte b at ≡ byte c to = simp add-zero at (h 0 (omega arith)) in
    let next : (i n : ℕ) → n + suc i ≡ n + 1 + i = λ i n. omega arith in
    let rest = number_same k b c (at + 1) (to + 1) (λ i l. rw (← next i at, ← next i to) (h (suc i) (suc-le-suc l))) in
    cc

-- Behind xs the bytes of ys are read (a byte: `get_or-append-add` of `lib.Seq`) ..
pub number_behind : (k : ℕ) (xs ys : List ℕ) (at : ℕ) → number k (xs ++ ys) (length xs + at) ≡ number k ys at
number_behind k xs ys at =
    number_same k (xs ++ ys) ys (length xs + at) at (λ i l. rw add_assoc (get_or-append-add xs ys (at + i) 0))

-- .. and inside xs those of xs (a byte: `ListN.get_or-append` of `lib.ListN`).
pub number-inside : (k : ℕ) (xs ys : List ℕ) (at : ℕ) → at + k ≤ length xs → number k (xs ++ ys) at ≡ number k xs at
number-inside k xs ys at h = number_same k (xs ++ ys) xs at at (λ i l. get_or-append xs ys 0 (at + i) (omega arith))

pub number-drop : (k : ℕ) (b : List ℕ) (n at : ℕ) → number k (drop n b) at ≡ number k b (n + at)
number-drop k b n at = number_same k (drop n b) b at (n + at) (λ i l. rw add_assoc (get_or-drop n b (at + i) 0))

-- ---- reading what was written, and writing what was read

pub number_digits : (k v : ℕ) (rest : List ℕ) → v < 256 ^ k → number k (digits k v ++ rest) 0 ≡ v
unfolding number digits
number_digits zero v rest h = omega arith
number_digits (suc k) v rest h =
    let high = number_behind k (v % 256 ∷ []) (digits k (v / 256) ++ rest) 0
    ∙ number_digits k (v / 256) rest (omega (arith, pow-succ' 256 k)) in
    omega arith

pub digits_number : (k : ℕ) (b : List ℕ) (at : ℕ) → Bytes b → at + k ≤ length b
    → digits k (number k b at) ≡ take k (drop at b)
unfolding number digits
digits_number zero b at h l = refl
digits_number (suc k) b at h l =
    let first = byte b at in
    let high = number k b (at + 1) in
    let small = byte_lt b h at in
    let within : at < length b = omega arith in
    let low : (first + 256 * high) % 256 ≡ first = omega arith in
    let rest : (first + 256 * high) / 256 ≡ high = omega arith in
    let more = digits_number k b (at + 1) h (omega arith) in
    rw (low, rest, more, drop-cons b at 0, add-one)

-- ---- pieces one behind the other

-- Two parts of b that follow each other are one part.
pub part_join : (j k : ℕ) (b : List ℕ) (at : ℕ)
    → take j (drop at b) ++ take k (drop (at + j) b) ≡ take (j + k) (drop at b)
part_join j k b at = rw (take-add, drop-drop)

-- Pieces numbered by pairs.
pub each-product : (m n : ℕ) (f : ℕ → List ℕ) → each m (λ a. each n (λ b. f (a * n + b))) ≡ each (m * n) f
unfolding each
each-product zero n f = ap (λ (k : ℕ). each k f) (sym (zero-mul n))
each-product (suc m) n f =
    let whole : m * n + n ≡ suc m * n = omega arith in
    rw (each-product m n f) (sym (each_add _ n f)
    ∙ ap (λ (k : ℕ). each k f) whole)

-- The bytes of a number, in two parts.
pub digits-split : (j k v : ℕ) → digits (j + k) v ≡ digits j v ++ digits k (v / 256 ^ j)
unfolding digits
digits-split zero k v = rw (zero-add k) (ap (digits k) (sym (div-one v)))
digits-split (suc j) k v =
    ap (λ (n : ℕ). digits n v) (suc-add j k)
    ∙ ap (λ (l : List ℕ). v % 256 ∷ l) (digits-split j k _)
    ∙ ap (λ (q : ℕ). v % 256 ∷ (digits j (v / 256) ++ digits k q))
    (div-div-eq-div-mul v 256 (256 ^ j) ∙ rw (← pow-succ' 256 j))

-- Pieces of k bytes that are the parts of b from `at` on: together they are one part of b.
pub each_parts : (n k : ℕ) (chunk : ℕ → List ℕ) (b : List ℕ) (at : ℕ)
    → ((i : ℕ) → i < n → chunk i ≡ take k (drop (at + k * i) b))
    → each n chunk ≡ take (n * k) (drop at b)
unfolding each
each_parts zero k chunk b at h = ap (λ (j : ℕ). take j (drop at b)) (sym (zero-mul k))
each_parts (suc n) k chunk b at h =
    let place : k * n ≡ n * k = omega arith in
    let whole : n * k + k ≡ suc n * k = omega arith in
    rw (each_parts n k chunk b at (λ i l. h i (le_step l)), h n (lt-suc_self n), place, part_join, whole)

-- The bytes of b from `at` on, one by one.
pub bytes-part : (n : ℕ) (b : List ℕ) (at : ℕ) → at + n ≤ length b
    → each n (λ i. byte b (at + i) ∷ []) ≡ take n (drop at b)
bytes-part n b at h =
    each_parts n 1 (λ i. byte b (at + i) ∷ []) b at
    (λ i l. let within : at + i < length b = omega arith in rw (one-mul, drop-cons b (at + i) 0))
    ∙ rw (mul-one n)

-- ---- the machine's eight bytes

-- A list that reads as zeros holds 0.
number_zeros : (k : ℕ) (b : List ℕ) (at : ℕ) → ((i : ℕ) → byte b i ≡ 0) → number k b at ≡ 0
unfolding number
number_zeros zero b at h = refl
number_zeros (suc k) b at h = rw (h at, number_zeros k b (at + 1) h) refl

eight-bytes : (b : List ℕ) → from_le_bytes w64 b ≡ number 8 b 0
unfolding number
eight-bytes b = omega arith

-- The n bytes of s from `at` on, with zeros behind them, hold their number.
pub number_padded : (n : ℕ) (s xs rest : List ℕ) (at : ℕ) → n ≤ 8 → at + n ≤ length s → xs ≡ take n (drop at s)
    → ((i : ℕ) → byte rest i ≡ 0) → from_le_bytes w64 (xs ++ rest) ≡ number n s at
number_padded n s xs rest at few room e none =
    let whole : n + (8 - n) ≡ 8 = omega arith in
    let size : length xs ≡ n = rw e (length-take-le n (drop at s) (omega (arith, length-drop at s))) in
    let front : number n (xs ++ rest) 0 ≡ number n s at =
    number_same n (xs ++ rest) s 0 at (λ i l.
    get_or-append xs rest 0 (0 + i) (omega arith)
    ∙ rw (e, zero-add i) (get_or-take n (drop at s) i 0 l ∙ get_or-drop at s i 0)) in
    let place : 0 + n ≡ length xs + 0 = omega arith in
    let behind : number (8 - n) (xs ++ rest) (0 + n) ≡ 0 =
    ap (number (8 - n) (xs ++ rest)) place ∙ number_behind (8 - n) xs rest 0 ∙ number_zeros (8 - n) rest 0 none in
    eight-bytes (xs ++ rest)
    ∙ ap (λ (k : ℕ). number k (xs ++ rest) 0) (sym whole)
    ∙ number-split n (8 - n) (xs ++ rest) 0
    ∙ rw behind (omega (arith, front))

low-bytes : (i k v : ℕ) → bytes_low_first i k v ≡ digits k (v / 256 ^ i)
unfolding digits
low-bytes i zero v = refl
low-bytes zero (suc k) v = rw (low-bytes 1 k v, div-one v) refl
low-bytes (suc i) (suc k) v =
    let next : v / 256 ^ suc i / 256 ≡ v / 256 ^ suc (suc i) =
    div-div-eq-div-mul v (256 ^ suc i) 256 ∙ ap (λ (p : ℕ). v / p) (omega arith) in
    rw (low-bytes (suc (suc i)) k v, next) refl

-- The n lowest of the eight bytes of v.
pub digits-front : (n v : ℕ) → n ≤ 8 → take n (to_le_bytes w64 v) ≡ digits n v
digits-front n v few =
    let whole : n + (8 - n) ≡ 8 = omega arith in
    ap (take n) (low-bytes 0 8 v ∙ ap (digits 8) (div-one v) ∙ ap (λ (k : ℕ). digits k v) (sym whole)
    ∙ digits-split n (8 - n) v)
    ∙ take_at (digits n v) (digits (8 - n) (v / 256 ^ n)) n (length_digits n v)

-- ---- lists of bytes

-- xs holds bytes only, one by one; `Bytes xs` follows.
infixr 67 ◌then◌
pub data AllBytes : List ℕ → Type 0 where
  done : AllBytes []
  ◌then◌ : {x : ℕ} {xs : List ℕ} → x < 256 → AllBytes xs → AllBytes (x ∷ xs)

pub bytes_of : {xs : List ℕ} → AllBytes xs → Bytes xs
bytes_of done i l = absurd (not-suc-le-zero l)
bytes_of (h then t) zero l = h
bytes_of (h then t) (suc i) l = bytes_of t i (le_of_suc-le-suc l)

pub bytes-append : {xs ys : List ℕ} → AllBytes xs → AllBytes ys → AllBytes (xs ++ ys)
bytes-append done q = q
bytes-append (h then t) q = h then bytes-append t q

pub bytes-digits : (k v : ℕ) → AllBytes (digits k v)
unfolding digits
bytes-digits zero v = done
bytes-digits (suc k) v = let low : v % 256 < 256 = omega arith in low then bytes-digits k _

pub bytes-each : (n : ℕ) (chunk : ℕ → List ℕ) → ((i : ℕ) → i < n → AllBytes (chunk i)) → AllBytes (each n chunk)
unfolding each
bytes-each zero chunk h = done
bytes-each (suc n) chunk h = bytes-append (bytes-each n chunk (λ i l. h i (le_step l))) (h n (lt-suc_self n))

-- ---- pieces inside bytes

-- xs stands in b from `at` on.
pub record Stands (xs b : List ℕ) (at : ℕ) : Type 0 where
  pub rest : List ℕ
  pub here : drop at b ≡ xs ++ rest

pub stands_to : {xs b : List ℕ} {at to : ℕ} → at ≡ to → Stands xs b at → Stands xs b to
stands_to {xs} {b} e w = subst (λ (i : ℕ). Stands xs b i) e w

pub stands-front : {b : List ℕ} {at : ℕ} (xs ys : List ℕ) → Stands (xs ++ ys) b at → Stands xs b at
stands-front xs ys w = record { rest = ys ++ w.rest; here = w.here ∙ append_assoc xs ys w.rest }

pub stands_back : {b : List ℕ} {at : ℕ} (xs ys : List ℕ) → Stands (xs ++ ys) b at → Stands ys b (at + length xs)
stands_back {b} {at} xs ys w = record {
  rest = w.rest;
  here = sym (drop-drop (length xs) at b)
      ∙ ap (λ (l : List ℕ). drop (length xs) l) (w.here ∙ append_assoc xs ys w.rest)
      ∙ drop-append_seam xs (ys ++ w.rest);
}

pub stands-each : {b : List ℕ} {at : ℕ} (n k : ℕ) (chunk : ℕ → List ℕ) → ((i : ℕ) → i < n → length (chunk i) ≡ k)
    → Stands (each n chunk) b at
    → (i : ℕ) → i < n → Stands (chunk i) b (at + k * i)
unfolding each
stands-each zero k chunk h w i l = absurd (not-suc-le-zero l)
stands-each {b} {at} (suc n) k chunk h w i l =
    let below : (j : ℕ) → j < n → length (chunk j) ≡ k = λ j m. h j (le_step m) in
    let place : length (each n chunk) ≡ k * n = length-each n k _ below ∙ mul_comm n k in
    ⊎_elim
    (λ q. rw q (rw place at (stands_back (each n chunk) (chunk n) w)))
    (λ m. stands-each n k chunk below (stands-front (each n chunk) (chunk n) w) i m)
    (eq-or-lt_of_le (le_of_suc-le-suc l))

pub stands-byte : {x : ℕ} {xs b : List ℕ} {at : ℕ} → Stands (x ∷ xs) b at → byte b at ≡ x
stands-byte {b} {at} w = rw (← add-zero at) (sym (get_or-drop at b 0 0) ∙ ap (λ (l : List ℕ). byte l 0) w.here)

pub stands-number : {b : List ℕ} {at : ℕ} (k v : ℕ) → v < 256 ^ k → Stands (digits k v) b at → number k b at ≡ v
stands-number {b} {at} k v h w =
    rw (← add-zero at) (sym (number-drop k b at 0)
    ∙ ap (λ (l : List ℕ). number k l 0) w.here
    ∙ number_digits k v _ h)
