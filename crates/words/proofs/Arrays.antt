-- Arrays that are filled from their start: word by word by a loop, or with a list over zeros.
use Prim.Native.Nat.{ℕ, zero, suc, ◌+◌, ◌-◌, ◌≤◌, ◌<◌}
use mathlib.Core.Path.{◌≡◌, refl, sym, ap, ◌∙◌, subst}
use mathlib.Core.List.{List, [], ◌∷◌, ◌++◌, append_assoc}
use native.Mathlib.Nat.{ne_of_lt}
use native.Mathlib.Decide.{dec_lt}
use native.Mathlib.Omega.{arith}
use lib.Seq.{set-append_seam, get_or-set_same, get_or-set_other, length-take-le, get_or-append-add, get_or-drop}
use lib.ListN.{length, get_or, take, drop, set, replicate, length-append, length-set, length-replicate, length-drop, get_or-append}
use Rattle.words.specs.Arrays.{padded, Filled}

abbrev zeros : ℕ → List ℕ
zeros n = replicate n 0

-- The first s words of xs are as `holds` says.
pub record Front (holds : ℕ → ℕ → Type 0) (s : ℕ) (xs : List ℕ) : Type 0 where
  pub words : (u : ℕ) → u < s → holds u (get_or xs u 0)

module _ {holds : ℕ → ℕ → Type 0} where
  pub filled_start : {old : List ℕ} → length old ≡ 64 → Filled holds 0 old old
  filled_start e = record { size = e; words = λ s h. absurd (omega arith); kept = λ s h. refl }

  pub filled_none : {xs : List ℕ} → xs ≡ replicate 64 0 → Filled holds 0 (replicate 64 0) xs
  filled_none e =
      subst (λ (xs : List ℕ). Filled holds 0 (replicate 64 0) xs) (sym e) (filled_start (length-replicate {A = ℕ} 64 0))

  pub filled_more : {old xs : List ℕ} {s : ℕ} (x : ℕ) → s < 64 → Filled holds s old xs → holds s x
      → Filled holds (s + 1) old (set xs s x)
  filled_more {old} {xs} {s} x l before here = record {
    size = length-set xs s x ∙ before.size;
    words = λ u h.
        elim (dec_lt u s) [
          | yes k ↦ subst (holds u) (sym (get_or-set_other xs s u x 0 (ne_of_lt k))) (before.words u k)
          | no k ↦ let e : s ≡ u = omega arith in
              subst (λ (v : ℕ). holds v (get_or (set xs s x) v 0)) e
              (subst (holds s) (sym (get_or-set_same xs s x 0 (omega (arith, before.size)))) here)
        ];
    kept = λ u h. get_or-set_other xs s u x 0 (λ e. omega arith) ∙ before.kept u (omega arith);
  }

  pub front_start : (xs : List ℕ) → Front holds 0 xs
  front_start xs = record { words = λ u h. absurd (omega arith) }

  pub front_more : {xs : List ℕ} {s : ℕ} (x : ℕ) → s < length xs → Front holds s xs → holds s x → Front holds (s + 1) (set xs s x)
  front_more {xs} {s} x l before here = record {
    words = λ u h.
        elim (dec_lt u s) [
          | yes k ↦ subst (holds u) (sym (get_or-set_other xs s u x 0 (ne_of_lt k))) (before.words u k)
          | no k ↦ let e : s ≡ u = omega arith in
              subst (λ (v : ℕ). holds v (get_or (set xs s x) v 0)) e
              (subst (holds s) (sym (get_or-set_same xs s x 0 l)) here)
        ];
  }

  -- Such words over the start of a list.
  pub filled_front : {old xs : List ℕ} {n s : ℕ} → length old ≡ 64 → n ≤ 64 → length xs ≡ length (take n old) → length xs ≤ s
      → Front holds s xs → Filled holds n old (xs ++ drop n old)
  filled_front {old} {xs} {n} size few long all front =
      let same : length xs ≡ n = long ∙ length-take-le n old (omega arith) in
      record {
        size = length-append xs (drop n old) ∙ omega (arith, length-drop n old);
        words = λ s h. rw (get_or-append xs (drop n old) 0 s (omega arith)) (front.words s (omega arith));
        kept = λ s h.
            let place : length xs + (s - n) ≡ s = omega arith in
            let whole : n + (s - n) ≡ s = omega arith in
            ap (λ (k : ℕ). get_or (xs ++ drop n old) k 0) (sym place)
            ∙ get_or-append-add xs (drop n old) (s - n) 0
            ∙ get_or-drop n old (s - n) 0
            ∙ ap (λ (k : ℕ). get_or old k 0) whole;
      }

  pub filled_end : {old xs : List ℕ} {s n : ℕ} → s ≡ n → Filled holds s old xs → Filled holds n old xs
  filled_end {old} {xs} e before = subst (λ (n : ℕ). Filled holds n old xs) e before

-- What each word holds, said in another way.
pub filled_as : {holds says : ℕ → ℕ → Type 0} {old xs : List ℕ} {n : ℕ} → ((s x : ℕ) → s < n → holds s x → says s x)
    → Filled holds n old xs → Filled says n old xs
filled_as {xs = xs} f before =
    record { size = before.size; words = λ s h. f s (get_or xs s 0) h (before.words s h); kept = before.kept }

-- Words that hold what they should are filled as they are.
pub filled_already : {holds : ℕ → ℕ → Type 0} {xs : List ℕ} {n : ℕ} → length xs ≡ 64
    → ((s : ℕ) → s < n → holds s (get_or xs s 0))
    → Filled holds n xs xs
filled_already e f = record { size = e; words = f; kept = λ s h. refl }

pub zero_at : (k s : ℕ) → get_or (zeros k) s 0 ≡ 0
zero_at zero s = refl
zero_at (suc k) zero = refl
zero_at (suc k) (suc s) = zero_at k s

-- What the words hold, told another way.
pub filled_told : {holds says : ℕ → ℕ → Type 0} {old xs : List ℕ} {n : ℕ} → Filled holds n old xs
    → ((s : ℕ) → s < n → says s (get_or xs s 0))
    → Filled says n old xs
filled_told before f = record { size = before.size; words = f; kept = before.kept }

-- Zeros are filled with what holds of 0.
pub filled_zeros : {holds : ℕ → ℕ → Type 0} {xs : List ℕ} {n : ℕ} → xs ≡ replicate 64 0 → ((s : ℕ) → holds s 0)
    → Filled holds n (replicate 64 0) xs
filled_zeros {holds} {xs} {n} e f = subst (Filled holds n (replicate 64 0)) (sym e) (
    filled_already (length-replicate {A = ℕ} 64 0) (λ s h. subst (holds s) (sym (zero_at 64 s)) (f s)))

-- What is filled is filled once more.
pub filled_again : {first next both : ℕ → ℕ → Type 0} {old xs ys : List ℕ} {n : ℕ}
    → ((s : ℕ) → s < n → first s (get_or xs s 0) → next s (get_or ys s 0) → both s (get_or ys s 0))
    → Filled first n old xs → Filled next n xs ys → Filled both n old ys
filled_again f p q = record {
  size = q.size;
  words = λ s h. f s h (p.words s h) (q.words s h);
  kept = λ s h. q.kept s h ∙ p.kept s h;
}

-- ---- zeros behind a list

module _ (n : ℕ) (xs : List ℕ) where
  -- One element more, in the place of the first zero.
  pub padded-more : (x : ℕ) → length xs < n → set (padded n xs) (length xs) x ≡ padded n (xs ++ (x ∷ []))
  unfolding padded
  padded-more x h =
      let left : n - length xs ≡ suc (n - length (xs ++ (x ∷ []))) = omega (arith, length-append xs (x ∷ [])) in
      ap (λ (k : ℕ). set (xs ++ zeros k) (length xs) x) left
      ∙ set-append_seam xs 0 (zeros (n - length (xs ++ (x ∷ [])))) x
      ∙ sym (append_assoc xs (x ∷ []) _)

  pub length-padded : length xs ≤ n → length (padded n xs) ≡ n
  unfolding padded
  length-padded h =
      length-append xs (zeros (n - length xs))
      ∙ ap (λ (k : ℕ). length xs + k) (length-replicate {A = ℕ} (n - length xs) 0)
      ∙ omega arith
