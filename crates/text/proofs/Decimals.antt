-- The laws of decimal numbers.
use Prim.Native.Nat.{ℕ, zero, suc, ◌+◌, ◌/◌, ◌^◌, ◌≤◌, ◌<◌}
use mathlib.Core.Path.{◌≡◌, refl, sym, ap, ◌∙◌}
use mathlib.Core.List.{List, [], ◌∷◌, ◌++◌}
use native.Mathlib.Nat.{mod-eq_of_lt}
use native.Mathlib.Decide.{dec_lt}
use native.Mathlib.Omega.{arith}
use lib.ListN.{length, set, length-append}
use Rattle.std.specs.Fmt as std
use Rattle.std.proofs.lemmas.Fmt.{decimal_by_steps}
use Rattle.words.specs.Laid.{over}
use Rattle.words.proofs.LaidLaws.{over_one, over_last}
use Rattle.text.specs.Decimal.{last_digit, digits, decimal}

digits_one : (k n : ℕ) → n < 10 → digits (suc k) n ≡ last_digit n ∷ []
unfolding digits
digits_one k n h =
    let e : n / 10 ≡ 0 = omega arith in
    ap (λ (q : ℕ). elim q [ zero ↦ [] | suc r ↦ digits k (suc r) ] ++ (last_digit n ∷ [])) e

digits_more : (k n : ℕ) → 10 ≤ n → digits (suc k) n ≡ digits k (n / 10) ++ (last_digit n ∷ [])
unfolding digits
digits_more k n h = go (n / 10) refl
  where
    go : (q : ℕ) → n / 10 ≡ q
        → elim q [ zero ↦ [] | suc r ↦ digits k (suc r) ] ++ (last_digit n ∷ []) ≡ digits k q ++ (last_digit n ∷ [])
    go zero e = absurd (omega arith)
    go (suc q) e = refl

-- Room for more digits than there are changes nothing.
digits-room : (k j n : ℕ) → n < k → n < j → digits k n ≡ digits j n
digits-room zero j n h l = absurd (omega arith)
digits-room (suc k) zero n h l = absurd (omega arith)
digits-room (suc k) (suc j) n h l =
    elim (dec_lt n 10) [
      | yes s ↦ digits_one k n s ∙ sym (digits_one j n s)
      | no s ↦
          digits_more k n (omega arith)
          ∙ ap (λ (ds : List ℕ). ds ++ (last_digit n ∷ [])) (digits-room k j (n / 10) (omega arith) (omega arith))
          ∙ sym (digits_more j n (omega arith))
    ]

-- A number below 10 is one digit; any other is n / 10 and its last digit.
pub decimal_one : (n : ℕ) → n < 10 → decimal n ≡ last_digit n ∷ []
unfolding decimal
decimal_one n h = digits_one n n h

pub decimal-more : (n : ℕ) → 10 ≤ n → decimal n ≡ decimal (n / 10) ++ (last_digit n ∷ [])
unfolding decimal
decimal-more n h =
    digits_more n n h ∙ ap (λ (ds : List ℕ). ds ++ (last_digit n ∷ []))
    (digits-room n (suc (n / 10)) (n / 10) (omega arith) (omega arith))

-- How many digits: one, or one more than n / 10 has.
pub length_one : (n : ℕ) → n < 10 → length (decimal n) ≡ 1
length_one n h = ap length (decimal_one n h)

pub length_more : (n : ℕ) → 10 ≤ n → length (decimal n) ≡ length (decimal (n / 10)) + 1
length_more n h = ap length (decimal-more n h) ∙ length-append (decimal (n / 10)) (last_digit n ∷ [])

pub length_some : (n : ℕ) → 1 ≤ length (decimal n)
length_some n =
    elim (dec_lt n 10) [
      | yes s ↦ let e = length_one n s in omega arith
      | no s ↦ let e = length_more n (omega arith) in omega arith
    ]

-- A number below 10 ^ (k + 1) has at most k + 1 digits.
pub length-below : (k n : ℕ) → n < 10 ^ suc k → length (decimal n) ≤ suc k
length-below zero n h = let e = length_one n (omega arith) in omega arith
length-below (suc k) n h =
    elim (dec_lt n 10) [
      | yes s ↦ let e = length_one n s in omega arith
      | no s ↦ let e = length_more n (omega arith) in let l = length-below k (n / 10) (omega arith) in omega arith
    ]

-- A 64-bit number has at most 20.
pub length_word : (n : ℕ) → n < 2 ^ 64 → length (decimal n) ≤ 20
length_word n h = length-below 19 n (omega arith)

-- ---- the turns of the loop

-- A number, from its last digit on: one digit, and what is left is n / 10; and the first digit.
pub number-turn : (out : List ℕ) (at i n : ℕ) → 10 ≤ n → i + 1 ≡ at + length (decimal n)
    → over (set out i (last_digit n)) at (decimal (n / 10)) ≡ over out at (decimal n)
number-turn out at i n h e =
    let l = length_more n h in
    let place : i ≡ at + length (decimal (n / 10)) = omega arith in
    ap (λ (k : ℕ). over (set out k (last_digit n)) at (decimal (n / 10))) place
    ∙ sym (over_last out at (decimal (n / 10)) (last_digit n))
    ∙ ap (over out at) (sym (decimal-more n h))

pub number_end : (out : List ℕ) (at i n : ℕ) → n < 10 → i + 1 ≡ at + length (decimal n)
    → set out i (last_digit n) ≡ over out at (decimal n)
number_end out at i n h e =
    let l = length_one n h in
    let place : i ≡ at = omega arith in
    ap (λ (k : ℕ). set out k (last_digit n)) place ∙ sym (over_one out at (last_digit n)) ∙ ap (over out at)
    (sym (decimal_one n h))

-- ---- as the library writes it

pub decimal_same : (n : ℕ) → n < 2 ^ 64 → std.decimal n ≡ decimal n
decimal_same n h =
    decimal_by_steps (λ (n : ℕ) (ds : List ℕ). ds ≡ decimal n) (λ n l. ap (λ (k : ℕ). (48 + k) ∷ []) (sym (mod-eq_of_lt l)) ∙ sym (decimal_one n l))
    (λ n ds l e. ap (λ (ds : List ℕ). ds ++ (last_digit n ∷ [])) e ∙ sym (decimal-more n l)) n h

-- The same of a number that is n.
pub decimal_of : (m n : ℕ) → m < 2 ^ 64 → m ≡ n → std.decimal m ≡ decimal n
decimal_of m n h e = decimal_same m h ∙ ap decimal e
