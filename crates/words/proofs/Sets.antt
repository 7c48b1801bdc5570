-- The laws of sets of states. Membership after each operation, when two sets are equal, and the lowest member.
use Prim.Native.Nat.{ℕ, zero, suc, ◌+◌, ◌-◌, ◌*◌, ◌/◌, ◌%◌, ◌^◌, ◌≤◌, ◌<◌, min, max}
use mathlib.Core.Path.{◌≡◌, refl, sym, ap, ◌∙◌, subst}
use mathlib.Core.Bool.{Bool, true, false, not, ◌||◌, ◌&&◌, cond}
use mathlib.Core.Logic.{◌↔◌, ⊎_elim}
use native.Mathlib.Nat.{div-one, div-eq_of_lt, mod-lt, lt_of_lt_of_le, lt_of_le_of_lt, pow-succ', zero-div, mod-eq_of_lt, one-mul}
use native.Mathlib.Nat.{le-div_iff_mul-le, lt_of_not-le, le_step, lt-suc_self, add-zero}
use native.Mathlib.Numerals.{one-add, add-one}
use native.Mathlib.Decide.{dec_le, dec_lt, ℕ_discrete as dec_eq}
use native.Mathlib.Omega.{arith}
use mathlib.Core.Bool.{and-true, and-false, or-true, or-false, or_assoc}
use lib.Dec.{eqb, ltb, leb, lit<, eqb-suc-suc, eqb-zero-suc, eqb-suc-zero}
use lib.Arith.{digits_mod}
use lib.Pow.{shr-shr, pow_mono, pow_pos, pow-lt, field, mod-mod-pow, high, low}
use lib.Bits.{bit_and, bit_or, bit_xor, differ, and_shr, or_shr, xor_shr, and_step, or_step, xor_step}
use lib.Bits.{and_lt, or_lt, xor_lt, and_le_l, and_self}
use lib.Count.{count_trailing_zeros, under}
use borrow.Author.Tests.{eqb-true, eq-eqb, ne_eqb, lt-ltb, le-ltb, leb-false, lt-leb, le-leb}
use mathlib.Core.List.{List}
use lib.ListN.{get_or}
use Rattle.std.specs.Int.{bit_not, w64}
use Rattle.std.proofs.lemmas.Nat.Bits.{bit_at_and, bit_at_not, bit_at_xor, bit_at-lt, same_from_bits_below}
use Rattle.bounded.proofs.Search.{any_at, any_found, same_truth, is_false, is_true, true_not_false, true_or_false}
use Rattle.bounded.proofs.Search.{and_now, and_never, and_left, and_right, or_left, or_right, or_now, or-then}
use Rattle.words.specs.Sets.{gathered, bit, union, intersection, difference, single, lowest, without, exceeds}
use Rattle.words.specs.Sets.{mask, Represents}

-- ---- a bit at a time

digit : (x : ℕ) → x % 2 < 2
digit x = mod-lt x (lit< tt)

pub bit-first : (x : ℕ) → bit x 0 ≡ eqb (x % 2) 1
unfolding bit
bit-first x = rw (div-one x)

pub bit_next : (x t : ℕ) → bit x (suc t) ≡ bit (x / 2) t
unfolding bit
bit_next x t = ap (λ (y : ℕ). eqb (y % 2) 1) (ap (λ (k : ℕ). x / 2 ^ k) (sym (one-add t)) ∙ sym (shr-shr x 1 t))

pub bit_zero : (t : ℕ) → bit 0 t ≡ false
unfolding bit
bit_zero t = rw (zero-div (2 ^ t))

-- Every number below k is a member of 2 ^ k - 1.
pub bit_full : (k t : ℕ) → t < k → bit (2 ^ k - 1) t ≡ true
bit_full zero t h = absurd (omega arith)
bit_full (suc k) zero h =
    let odd : (2 ^ suc k - 1) % 2 ≡ 1 = omega (arith, pow_pos k) in
    bit-first _ ∙ rw odd
bit_full (suc k) (suc t) h =
    let half : (2 ^ suc k - 1) / 2 ≡ 2 ^ k - 1 = omega (arith, pow_pos k) in
    bit_next (2 ^ suc k - 1) t ∙ rw half (bit_full k t (omega arith))

-- ---- membership after each operation

-- What holds of the digits 0 and 1, two at a time, holds of all digits.
digits-all : (P : ℕ → ℕ → Type 0) → P 0 0 → P 0 1 → P 1 0 → P 1 1 → (p q : ℕ) → p < 2 → q < 2 → P p q
digits-all P a b c d zero zero hp hq = a
digits-all P a b c d zero (suc zero) hp hq = b
digits-all P a b c d (suc zero) zero hp hq = c
digits-all P a b c d (suc zero) (suc zero) hp hq = d
digits-all P a b c d (suc (suc p)) q hp hq = absurd (omega arith)
digits-all P a b c d zero (suc (suc q)) hp hq = absurd (omega arith)
digits-all P a b c d (suc zero) (suc (suc q)) hp hq = absurd (omega arith)

-- An operation that goes digit by digit, and a test that says of each pair of digits what it gives.
module _ (op digitwise : ℕ → ℕ → ℕ) (test : Bool → Bool → Bool)
    (shifted : (x y k : ℕ) → op x y / 2 ^ k ≡ op (x / 2 ^ k) (y / 2 ^ k))
    (step : (x y : ℕ) → op x y ≡ op (x / 2) (y / 2) * 2 + digitwise (x % 2) (y % 2)) where
  abbrev Told : ℕ → ℕ → Type 0
  Told p q = (digitwise p q < 2) × (eqb (digitwise p q) 1 ≡ test (eqb p 1) (eqb q 1))

  bit_by : Told 0 0 → Told 0 1 → Told 1 0 → Told 1 1 → (x y t : ℕ) → bit (op x y) t ≡ test (bit x t) (bit y t)
  unfolding bit
  bit_by p q r s x y t =
      let a = x / 2 ^ t in
      let b = y / 2 ^ t in
      let (small, told) = digits-all Told p q r s (a % 2) (b % 2) (digit a) (digit b) in
      ap (λ (z : ℕ). eqb (z % 2) 1) (shifted x y t ∙ step a b)
      ∙ ap (λ (z : ℕ). eqb z 1) (digits_mod (op (a / 2) (b / 2)) small)
      ∙ told

pub bit-union : (x y t : ℕ) → bit (union x y) t ≡ (bit x t || bit y t)
unfolding union
bit-union =
    bit_by bit_or max ◌||◌ or_shr or_step (omega arith, refl) (omega arith, refl) (omega arith, refl) (omega arith, refl)

pub bit-intersection : (x y t : ℕ) → bit (intersection x y) t ≡ (bit x t && bit y t)
unfolding intersection
bit-intersection =
    bit_by bit_and min ◌&&◌ and_shr and_step (omega arith, refl) (omega arith, refl) (omega arith, refl)
    (omega arith, refl)

bit-xor : (x y t : ℕ) → bit (bit_xor x y) t ≡ cond (bit y t) (not (bit x t)) (bit x t)
bit-xor =
    bit_by bit_xor differ (λ p q. cond q (not p) p) xor_shr xor_step (omega arith, refl) (omega arith, refl)
    (omega arith, refl) (omega arith, refl)

pub bit-difference : (x y t : ℕ) → bit (difference x y) t ≡ (bit x t && not (bit y t))
unfolding difference intersection
bit-difference x y t = bit-xor x (bit_and x y) t ∙ rw (bit-intersection x y t) (taken (bit x t) (bit y t))
  where
    taken : (p q : Bool) → cond (p && q) (not p) p ≡ (p && not q)
    taken true true = refl
    taken true false = refl
    taken false q = refl

pub bit-single : (t u : ℕ) → bit (single t) u ≡ eqb t u
unfolding single
bit-single zero zero = bit-first 1
bit-single zero (suc u) = bit_next 1 u ∙ bit_zero u ∙ sym (eqb-zero-suc u)
bit-single (suc t) zero =
    let even : 2 ^ suc t % 2 ≡ 0 = omega arith in
    bit-first _ ∙ rw even (sym (eqb-suc-zero t))
bit-single (suc t) (suc u) =
    let half : 2 ^ suc t / 2 ≡ 2 ^ t = omega arith in
    bit_next _ u ∙ rw half (bit-single t u ∙ sym (eqb-suc-suc t u))

-- ---- a word and its members

-- A word below 2 ^ k has no member at k or above.
pub none_above : (x k t : ℕ) → x < 2 ^ k → k ≤ t → bit x t ≡ false
unfolding bit
none_above x k t h l =
    rw (div-eq_of_lt (lt_of_lt_of_le h (pow_mono l)))

true_false : true ≡ false → ⊥
true_false e = let z : ◌≡◌ {A = ℕ} 0 1 = cc in omega arith

pub member_le : (x t : ℕ) → bit x t ≡ true → 2 ^ t ≤ x
member_le x t m =
    elim (dec_le (2 ^ t) x)
    [ yes h ↦ h | no h ↦ absurd (true_false (sym m ∙ none_above x t t (omega arith) (omega arith))) ]

-- Two words below 2 ^ k with the same members are equal.
pub same_members : (k x y : ℕ) → x < 2 ^ k → y < 2 ^ k → ((t : ℕ) → t < k → bit x t ≡ bit y t) → x ≡ y
same_members zero x y hx hy f = omega arith
same_members (suc k) x y hx hy f =
    let high : x / 2 ≡ y / 2 = same_members k (x / 2) (y / 2) (omega arith) (omega arith)
    (λ t h. sym (bit_next x t) ∙ f (suc t) (omega arith) ∙ bit_next y t) in
    let low : x % 2 ≡ y % 2 = digit_eq _ _ (digit x) (digit y) (sym (bit-first x) ∙ f 0 (omega arith) ∙ bit-first y) in
    omega arith
  where
    digit_eq : (p q : ℕ) → p < 2 → q < 2 → eqb p 1 ≡ eqb q 1 → p ≡ q
    digit_eq zero zero hp hq e = refl
    digit_eq zero (suc zero) hp hq e = absurd (true_false (sym e))
    digit_eq (suc zero) zero hp hq e = absurd (true_false e)
    digit_eq (suc zero) (suc zero) hp hq e = refl
    digit_eq (suc (suc p)) q hp hq e = absurd (omega arith)
    digit_eq zero (suc (suc q)) hp hq e = absurd (omega arith)
    digit_eq (suc zero) (suc (suc q)) hp hq e = absurd (omega arith)

-- A word is 0 exactly if it has no member.
pub no_members : (k x : ℕ) → x < 2 ^ k → ((t : ℕ) → t < k → bit x t ≡ false) → x ≡ 0
no_members k x h f = same_members k x 0 h (pow_pos k) (λ t l. f t l ∙ sym (bit_zero t))

-- The bits below k do not depend on what stands above them.
pub bit_mod : (k x t : ℕ) → t < k → bit (x % 2 ^ k) t ≡ bit x t
bit_mod zero x t h = absurd (omega arith)
bit_mod (suc k) x zero h =
    bit-first _
    ∙ rw (← add-one k, mod-mod-pow x k 1) (sym (bit-first x))
bit_mod (suc k) x (suc t) h =
    bit_next _ t
    ∙ rw (← add-one k, field x k 1) (bit_mod k (x / 2) t (omega arith)
    ∙ sym (bit_next x t))

below_pow : (x : ℕ) → x < 2 ^ x
below_pow zero = omega arith
below_pow (suc x) = let h = below_pow x in omega arith

-- A word whose members are all below k is below 2 ^ k.
pub all-below : (k x : ℕ) → ((t : ℕ) → k ≤ t → bit x t ≡ false) → x < 2 ^ k
all-below zero x f = let e = no_members x x (below_pow x) (λ t h. f t (omega arith)) in omega arith
all-below (suc k) x f =
    let h : x / 2 < 2 ^ k = all-below k (x / 2) (λ t l. sym (bit_next x t) ∙ f (suc t) (omega arith)) in
    omega arith

-- ---- two words in one: u in the places below p, and v from p on

pub bit-low : (v p t : ℕ) {u : ℕ} → u < 2 ^ p → t < p → bit (v * 2 ^ p + u) t ≡ bit u t
bit-low v p t {u} h l = sym (bit_mod p _ t l) ∙ rw (low v p h)

pub bit_high : (v p t : ℕ) {u : ℕ} → u < 2 ^ p → p ≤ t → bit (v * 2 ^ p + u) t ≡ bit v (t - p)
unfolding bit
bit_high v p t {u} h l =
    let place : p + (t - p) ≡ t = omega arith in
    ap (λ (y : ℕ). eqb (y % 2) 1)
    (ap (λ (k : ℕ). (v * 2 ^ p + u) / 2 ^ k) (sym place)
    ∙ sym (shr-shr (v * 2 ^ p + u) p (t - p))
    ∙ ap (λ (z : ℕ). z / 2 ^ (t - p)) (high v p h))

-- ---- the numbers below n that pass a test

-- The members of x, or none.
pub bit_cond : (b : Bool) (x t : ℕ) → bit (cond b x 0) t ≡ (b && bit x t)
bit_cond true x t = refl
bit_cond false x t = bit_zero t

-- The set 1 is that of 0 alone.
pub bit_one : (t : ℕ) → bit 1 t ≡ eqb 0 t
unfolding single
bit_one t = bit-single 0 t

pub mask_lt : (n : ℕ) (test : ℕ → Bool) → mask n test < 2 ^ n
unfolding mask
mask_lt zero test = omega arith
mask_lt (suc n) test = more (test n) _ (mask_lt n _)
  where
    more : (b : Bool) (u : ℕ) → u < 2 ^ n → u + cond b (2 ^ n) 0 < 2 ^ suc n
    more true u h = omega arith
    more false u h = omega arith

pub bit_mask : (n : ℕ) (test : ℕ → Bool) (t : ℕ) → bit (mask n test) t ≡ (ltb t n && test t)
unfolding mask
bit_mask zero test t = bit_zero t ∙ sym (and_never (ltb t 0) (test t) (le-ltb t 0 (omega arith)))
bit_mask (suc n) test t =
    let top : ℕ = cond (test n) 1 0 in
    rw (above (test n) (mask n test)) (elim (dec_lt t n) [
      | yes l ↦
          bit-low top n t (mask_lt n test) l ∙ bit_mask n test t
          ∙ ap (λ (p : Bool). p && test t) (lt-ltb t n l ∙ sym (lt-ltb t (suc n) (omega arith)))
      | no l ↦ bit_high top n t (mask_lt n test) (omega arith) ∙ bit_cond (test n) 1 (t - n) ∙ last (omega arith)
    ])
  where
    above : (b : Bool) (u : ℕ) → u + cond b (2 ^ n) 0 ≡ cond b 1 0 * 2 ^ n + u
    above true u = omega arith
    above false u = omega arith

    last : n ≤ t → (test n && bit 1 (t - n)) ≡ (ltb t (suc n) && test t)
    last l =
        elim (dec_eq t n) [
          | yes e ↦
              ap (λ (p : Bool). test n && p) (bit_one (t - n) ∙ eq-eqb 0 (t - n) (omega arith)) ∙ and-true (test n)
              ∙ ap test (sym e)
              ∙ sym (and_now _ _ (lt-ltb t _ (omega arith)))
          | no e ↦
              ap (λ (p : Bool). test n && p) (bit_one (t - n) ∙ ne_eqb 0 (t - n) (λ z. e (omega arith)))
              ∙ and-false (test n)
              ∙ sym (and_never _ _ (le-ltb t _ (omega arith)))
        ]

pub mask-same : (n : ℕ) (f g : ℕ → Bool) → ((t : ℕ) → t < n → f t ≡ g t) → mask n f ≡ mask n g
unfolding mask
mask-same zero f g h = refl
mask-same (suc n) f g h = rw (mask-same n f g (λ t l. h t (le_step l)), h n (lt-suc_self n))

-- A word is the set of the numbers that it represents, where they are below k.
pub represents_mask : (k x : ℕ) (test : ℕ → Bool) → ((t : ℕ) → k ≤ t → test t ≡ false) → Represents x test
    → x ≡ mask k test
represents_mask k x test none told =
    same_members k x _ (all-below k x (λ t l. told t ∙ none t l)) (mask_lt k test) (λ t l.
    told t ∙ sym (bit_mask k test t ∙ and_now _ _ (lt-ltb t k l)))

-- No number from n on passes, so that a wider bound finds no more.
pub mask_wider : (n m : ℕ) (test : ℕ → Bool) → n ≤ m → ((t : ℕ) → n ≤ t → test t ≡ false) → mask m test ≡ mask n test
unfolding mask
mask_wider n zero test h none = let e : 0 ≡ n = omega arith in ap (λ (k : ℕ). mask k test) e
mask_wider n (suc m) test h none =
    elim (dec_eq n (suc m)) [
      | yes e ↦ ap (λ (k : ℕ). mask k test) (sym e)
      | no e ↦ rw (none m (omega arith)) (add-zero _ ∙ mask_wider n m test (omega arith) none)
    ]

-- `exceeds n x` is false exactly where all members of x are below n.
pub within_members : (n x : ℕ) → exceeds n x ≡ false → (t : ℕ) → n ≤ t → bit x t ≡ false
unfolding exceeds
within_members n x e t l = none_above x n t (leb-false _ x e) l

pub members_within : (n x : ℕ) → ((t : ℕ) → n ≤ t → bit x t ≡ false) → exceeds n x ≡ false
unfolding exceeds
members_within n x f = lt-leb _ x (all-below n x f)

pub exceeds-union : (n x y : ℕ) → exceeds n (union x y) ≡ (exceeds n x || exceeds n y)
exceeds-union n x y =
    same_truth _ _
    (λ e.
    is_true _ (λ f.
    true_not_false e (members_within n _ (λ t l.
    bit-union x y t
    ∙ or-then _ _ (within_members n x (or_left _ _ f) t l)
    ∙ within_members n y (or_right (exceeds n x) _ f) t l))))
    (λ e.
    is_true _ (λ f.
    let none : (t : ℕ) → n ≤ t → (bit x t || bit y t) ≡ false = λ t l. sym (bit-union x y t)
    ∙ within_members n _ f t l in
    true_not_false e
    (or-then _ _ (members_within n x (λ t l. or_left _ _ (none t l)))
    ∙ members_within n y (λ t l. or_right (bit x t) _ (none t l)))))

-- What the code of `exceeds` tests: after n - 1 places are shifted out, at least 2 is left.
pub exceeds_shifted : (n x : ℕ) → 1 ≤ n → leb 2 (x / 2 ^ (n - 1)) ≡ exceeds n x
unfolding exceeds
exceeds_shifted zero x h = absurd (omega arith)
exceeds_shifted (suc n) x h =
    let e : suc n - 1 ≡ n = omega arith in
    let p : 2 * 2 ^ n ≡ 2 ^ suc n = omega arith in
    rw e (shifted (le-div_iff_mul-le {k = 2 ^ n} {x = 2} {y = x} (pow_pos n)) p)
  where
    shifted : (2 ≤ x / 2 ^ n) ↔ (2 * 2 ^ n ≤ x) → 2 * 2 ^ n ≡ 2 ^ suc n → leb 2 (x / 2 ^ n) ≡ leb (2 ^ suc n) x
    shifted d p =
        elim (dec_le 2 (x / 2 ^ n)) [
          | yes l ↦ le-leb 2 _ l ∙ sym (le-leb _ x (subst (λ (q : ℕ). q ≤ x) p (d.0 l)))
          | no l ↦ lt-leb 2 (x / 2 ^ n) (omega arith)
              ∙ sym (lt-leb (2 ^ suc n) x (lt_of_not-le (λ g. l (d.1 (subst (λ (q : ℕ). q ≤ x) (sym p) g)))))
        ]

-- ---- taking a member away, and the lowest member

pub bit-without : (x t u : ℕ) → bit x t ≡ true → bit (without x t) u ≡ (bit x u && not (eqb t u))
unfolding without
bit-without x zero zero m =
    let odd : x % 2 ≡ 1 = eqb-true _ 1 (sym (bit-first x) ∙ m) in
    let even : (x - 1) % 2 ≡ 0 = omega arith in
    bit-first _ ∙ rw even (sym (and-false (bit x 0)))
bit-without x zero (suc u) m =
    let odd : x % 2 ≡ 1 = eqb-true _ 1 (sym (bit-first x) ∙ m) in
    let half : (x - 1) / 2 ≡ x / 2 = omega arith in
    bit_next _ u ∙ rw half (sym (bit_next x u) ∙ sym (and-true _)
    ∙ ap (λ (b : Bool). bit x (suc u) && not b) (sym (eqb-zero-suc u)))
bit-without x (suc t) zero m =
    let l = member_le x _ m in
    let same : (x - 2 ^ suc t) % 2 ≡ x % 2 = omega arith in
    bit-first _ ∙ rw same (sym (bit-first x) ∙ sym (and-true _)
    ∙ ap (λ (b : Bool). bit x 0 && not b) (sym (eqb-suc-zero t)))
bit-without x (suc t) (suc u) m =
    let l = member_le x _ m in
    let half : (x - 2 ^ suc t) / 2 ≡ x / 2 - 2 ^ t = omega arith in
    bit_next _ u ∙ rw half (bit-without (x / 2) t u (sym (bit_next x t) ∙ m)
    ∙ ap (λ (b : Bool). b && not (eqb t u)) (sym (bit_next x u))
    ∙ ap (λ (b : Bool). bit x (suc u) && not b) (sym (eqb-suc-suc t u)))

-- t is the lowest member of x
pub record Lowest (x t : ℕ) : Type 0 where
  pub member : bit x t ≡ true
  pub least : (u : ℕ) → u < t → bit x u ≡ false

trailing : (k x : ℕ) → x < 2 ^ k → (x ≡ 0 → ⊥) → Lowest x (count_trailing_zeros k x) × (count_trailing_zeros k x < k)
unfolding count_trailing_zeros
trailing zero x h n = absurd (n (omega arith))
trailing (suc k) x h n = go (trailing k _) _ refl
  where
    go : (x / 2 < 2 ^ k → (x / 2 ≡ 0 → ⊥) → Lowest (x / 2) (count_trailing_zeros k (x / 2)) × (count_trailing_zeros k (x / 2) < k))
        → (d : ℕ) → x % 2 ≡ d
        → Lowest x (under d (count_trailing_zeros k (x / 2))) × (under d (count_trailing_zeros k (x / 2)) < suc k)
    go rest zero e =
        let r = rest (omega arith) (λ z. n (omega arith)) in (
          record {
            member = bit_next x _ ∙ r.0.member;
            least = λ u. elim u as (λ (v : ℕ). v < under zero (count_trailing_zeros k (x / 2)) → bit x v ≡ false)
                [ zero ↦ λ l. bit-first x ∙ rw e | suc v ↦ λ l. bit_next x v ∙ r.0.least v (omega arith) ];
          },
          omega arith,
        )
    go rest (suc d) e = (
      record { member = bit-first x ∙ eq-eqb (x % 2) 1 (omega (arith, digit x)); least = λ u l. absurd (omega arith) },
      omega arith,
    )

-- Of a word with a member, `lowest` is the lowest.
pub lowest_member : (x : ℕ) → x < 2 ^ 64 → (x ≡ 0 → ⊥) → Lowest x (lowest x)
unfolding lowest
lowest_member x h n = (trailing _ x h n).0

pub lowest-below : (x : ℕ) → x < 2 ^ 64 → (x ≡ 0 → ⊥) → lowest x < 64
unfolding lowest
lowest-below x h n = (trailing _ x h n).1

-- The lowest member is below m where all members are.
pub lowest_lt : (m x : ℕ) → m ≤ 64 → x < 2 ^ m → (x ≡ 0 → ⊥) → lowest x < m
lowest_lt m x l h n =
    elim (dec_lt (lowest x) m) [
      | yes k ↦ k
      | no k ↦ absurd
          (true_not_false (lowest_member x (lt_of_lt_of_le h (pow_mono l)) n).member
          (none_above x m _ h (omega arith)))
    ]

-- ---- bounds

pub union_lt : (k x y : ℕ) → x < 2 ^ k → y < 2 ^ k → union x y < 2 ^ k
unfolding union
union_lt = or_lt

pub intersection_lt : (k x y : ℕ) → x < 2 ^ k → y < 2 ^ k → intersection x y < 2 ^ k
unfolding intersection
intersection_lt = and_lt

pub single_lt : (k t : ℕ) → t < k → single t < 2 ^ k
unfolding single
single_lt k t h = pow-lt h

pub without_le : (x t : ℕ) → without x t ≤ x
unfolding without
without_le x t = omega arith

pub without_less : (x t : ℕ) → (x ≡ 0 → ⊥) → without x t < x
unfolding without
without_less x t n = omega (arith, pow_pos t)

-- ---- what the code of a single set computes

pub shifted_one : (t : ℕ) → t < 64 → 1 * 2 ^ t % 2 ^ 64 ≡ single t
unfolding single
shifted_one t h = rw (one-mul (2 ^ t)) (mod-eq_of_lt (pow-lt h))

-- ---- what the code of `difference` computes

pub and-not : (x y : ℕ) → x < 2 ^ 64 → y < 2 ^ 64 → bit_and x (bit_not w64 y) ≡ difference x y
unfolding difference intersection
and-not x y h l =
    same_from_bits_below 64 _ _ (below (bit_not w64 y)) (xor_lt 64 x (bit_and x y) h (below y))
    (λ i k.
    omega (
      arith,
      bit_at_and x (bit_not w64 y) i,
      bit_at_not w64 y i l k,
      bit_at_xor x (bit_and x y) i,
      bit_at_and x y i,
      bit_at-lt x i,
      bit_at-lt y i,
    ))
  where
    below : (z : ℕ) → bit_and x z < 2 ^ 64
    below z = lt_of_le_of_lt (and_le_l x z) h

-- ---- gathering

-- Nothing is gathered from the empty set.
pub gathered_empty : (n : ℕ) (table : List ℕ) (c : ℕ) → gathered n 0 table c ≡ false
unfolding gathered
gathered_empty n table c =
    is_false _ (λ e.
    let w = any_found n _ e in
    true_not_false (and_left _ _ w.2) (bit_zero _))

-- Where all members of x are below n, only the first n words count.
pub gathered-within : (n x : ℕ) (table : List ℕ) → n ≤ 64 → ((t : ℕ) → n ≤ t → bit x t ≡ false) → (c : ℕ)
    → gathered 64 x table c ≡ gathered n x table c
unfolding gathered
gathered-within n x table l f c =
    same_truth _ _
    (λ e.
    let w = any_found _ _ e in
    elim (dec_lt w.0 n) [
      | yes k ↦ any_at _ n _ k w.2
      | no k ↦ absurd (true_not_false (and_left _ _ w.2) (f w.0 (omega arith)))
    ])
    (λ e. let w = any_found n _ e in any_at _ _ _ (lt_of_lt_of_le w.1 l) w.2)

-- The word at a member t of x, and what x without t gathers, is what x gathers.
pub gathered-without : (n x t : ℕ) (table : List ℕ) → t < n → bit x t ≡ true → (c : ℕ)
    → gathered n x table c ≡ (bit (get_or table t 0) c || gathered n (without x t) table c)
unfolding gathered
gathered-without n x t table h m c =
    let rest : ℕ → Bool = λ u. bit (without x t) u && bit (get_or table u 0) c in
    same_truth _ _
    (λ e.
    let w = any_found n _ e in
    elim (dec_eq t w.0) [
      | yes q ↦ or_now _ _
          (subst (λ (u : ℕ). bit (get_or table u 0) c ≡ true) (sym q) (and_right (bit x w.0) _ w.2))
      | no q ↦
          or-last (bit (get_or table t 0) c) _ (any_at rest n _ w.1
          (and_now (bit (without x t) w.0) (bit (get_or table w.0 0) c)
          (bit-without x t w.0 m ∙ and_now (bit x w.0) _ (and_left _ (bit (get_or table w.0 0) c) w.2)
          ∙ ap not (ne_eqb t _ q))
          ∙ and_right (bit x w.0) _ w.2))
    ])
    (λ e.
    ⊎_elim
    (λ p. any_at _ n t h (and_now _ _ m ∙ p))
    (λ p.
    let w = any_found n _ (sym (or-then _ _ p) ∙ e) in
    let kept = and_left _ _ w.2 in
    any_at _ n _ w.1
    (and_now (bit x w.0) (bit (get_or table w.0 0) c)
    (and_left (bit x w.0) (not (eqb t w.0)) (sym (bit-without x t w.0 m) ∙ kept))
    ∙ and_right (bit (without x t) w.0) _ w.2))
    (true_or_false _))
  where
    or-last : (p q : Bool) → q ≡ true → (p || q) ≡ true
    or-last p q e = rw e (or-true p)

-- What a step of `gather` finds and leaves comes to the same as before it.
pub gathered-lowest : (found rest : ℕ) (table : List ℕ) → rest < 2 ^ 64 → (rest ≡ 0 → ⊥) → (c : ℕ)
    → (bit (union found (get_or table (lowest rest) 0)) c || gathered 64 (without rest (lowest rest)) table c)
    ≡ (bit found c || gathered 64 rest table c)
gathered-lowest found rest table h z c =
    let t = lowest rest in
    let word = get_or table t 0 in
    rw (bit-union _ _ c) (or_assoc (bit found c) (bit word c) (gathered 64 (without rest t) table c)
    ∙ ap (λ (p : Bool). bit found c || p)
    (sym (gathered-without _ _ t _ (lowest-below _ h z) (lowest_member _ h z).member c)))

-- Where nothing is left, what is found is all.
pub gathered_end : (found rest : ℕ) (table : List ℕ) → rest ≡ 0 → (c : ℕ)
    → (bit found c || gathered 64 rest table c) ≡ bit found c
gathered_end found rest table e c =
    rw (e, gathered_empty _ _ c) (or-false _)

-- ---- what the code of `drop_lowest` computes

clear : (k x : ℕ) → x < 2 ^ k → (x ≡ 0 → ⊥) → bit_and x (x - 1) ≡ x - 2 ^ count_trailing_zeros k x
unfolding count_trailing_zeros
clear zero x h n = absurd (n (omega arith))
clear (suc k) x h n = go (clear k _) _ refl
  where
    doubled : (p : ℕ) → min (x % 2) ((x - 1) % 2) ≡ 0 → x % 2 ≡ 0
        → (x / 2 - p) * 2 + min (x % 2) ((x - 1) % 2) ≡ x - 2 * p
    doubled p l e = omega arith

    go : (x / 2 < 2 ^ k → (x / 2 ≡ 0 → ⊥) → bit_and (x / 2) (x / 2 - 1) ≡ x / 2 - 2 ^ count_trailing_zeros k (x / 2))
        → (d : ℕ) → x % 2 ≡ d → bit_and x (x - 1) ≡ x - 2 ^ under d (count_trailing_zeros k (x / 2))
    go rest zero e =
        let less = rest (omega arith) (λ z. n (omega arith)) in
        let half : (x - 1) / 2 ≡ x / 2 - 1 = omega arith in
        let low : min (x % 2) ((x - 1) % 2) ≡ 0 = omega arith in
        and_step x (x - 1) ∙ ap (λ (y : ℕ). bit_and (x / 2) y * 2 + min (x % 2) ((x - 1) % 2)) half
        ∙ ap (λ (y : ℕ). y * 2 + min (x % 2) ((x - 1) % 2)) less ∙ doubled _ low e
        ∙ ap (λ (q : ℕ). x - q) (sym (pow-succ' 2 (count_trailing_zeros k _)))
    go rest (suc d) e =
        let half : (x - 1) / 2 ≡ x / 2 = omega (arith, digit x) in
        let low : min (x % 2) ((x - 1) % 2) ≡ 0 = omega (arith, digit x) in
        and_step x (x - 1) ∙ rw (half, and_self (x / 2)) (omega (arith, digit x))

pub clear-lowest : (x : ℕ) → x < 2 ^ 64 → (x ≡ 0 → ⊥) → bit_and x (x - 1) ≡ without x (lowest x)
unfolding without lowest
clear-lowest x h n = clear _ x h n

-- Nothing is left of x without its lowest member exactly if it has no other.
pub single-lowest : (x : ℕ) → x < 2 ^ 64 → (x ≡ 0 → ⊥) → eqb (without x (lowest x)) 0 ≡ eqb x (single (lowest x))
unfolding without single
single-lowest x h n =
    let le = member_le x _ (lowest_member x h n).member in
    let t = lowest x in
    same_truth _ _
    (λ e. let z = eqb-true (x - 2 ^ t) 0 e in eq-eqb x (2 ^ t) (omega arith))
    (λ e. let z = eqb-true x (2 ^ t) e in eq-eqb (x - 2 ^ t) 0 (omega arith))

-- The empty set is no set of one.
pub none-single : (x t : ℕ) → x ≡ 0 → false ≡ eqb x (single t)
none-single x t e =
    sym (ne_eqb x _
    (λ q. true_not_false (bit-single t t ∙ eq-eqb t t refl) (ap (λ (y : ℕ). bit y t) (sym q ∙ e) ∙ bit_zero t)))
