-- A test of each number of a range, as `any` answers it.
use Rattle.std.proofs.Common.{ℕ, ◌+◌, ◌-◌, ◌<◌, ◌≡◌, refl, sym, subst, Bool, true, false, List, Option, length, get_or, arith}
use Rattle.std.specs.Prelude.{MatchOption}
use Rattle.std.specs.Bool.{MatchBool}
use denote.Param.Members.{Mut}
use Rattle.std.specs.declared.ops.Range.{Range}
use Rattle.std.specs.Iterator.{YieldsThen}
use Rattle.std.specs.List.{FoldsTo, range_with_len, AllWithin, HoldsAt}
use Rattle.std.specs.Fn.{Called}
use Rattle.std.proofs.lemmas.Iterator.{YieldsList-from_range, cases_from_any}
use Rattle.std.proofs.lemmas.List.FromFn.{length-range_with_len, get_or-range_with_len}
use Rattle.bounded.specs.Search.{any}
use Rattle.bounded.proofs.Search.{any_at, any_fails}

-- What a range gives, turn by turn.
abbrev Turn : Range ℕ → Option ℕ → Range ℕ → Type 0
Turn s r t =
    (t.end ≡ s.end)
    × MatchOption r ((s.end - s.start ≡ 0) × (t.start ≡ s.start)) (λ x. (0 < s.end - s.start) × (x ≡ s.start) × (t.start ≡ s.start + 1))

-- Where the closure says what `test` says, `any` over the numbers below k is the search below n, which is k.
pub any_in_range : {F : Type 0} {g : Mut F (ℕ × Unit {0}) Bool} {n k : ℕ} (test : ℕ → Bool) → k ≡ n → (u : Range ℕ) (f : F) (r : Bool)
    → (xs : List ℕ) × (o : Option ℕ) × (j : F) × YieldsThen Turn (record { start = 0; end = k }) xs o u × FoldsTo (λ p x q. Called g p (x, tt) false q) f xs j × MatchOption o (r ≡ false) (λ x. (r ≡ true) × ((h : F) × Called g j (x, tt) true h))
    → ((x : ℕ) (b : Bool) (q : F) → Called g f (x, tt) b q → (q ≡ f) × (b ≡ test x))
    → r ≡ any n test
any_in_range {n = n} {k = k} test e u f r ran said =
    by r (cases_from_any u f r (λ x. test x ≡ true) (λ x. test x ≡ false) ran (YieldsList-from_range 0 k n refl (omega arith))
    (λ x q c. sym (said x true q c).1) (λ x q c. let w = said x false q c in (w.0, sym w.1)))
  where
    all : List ℕ
    all = range_with_len 0 n

    at : (i : ℕ) → i < n → get_or all i 0 ≡ i
    at i l = let e = get_or-range_with_len 0 n i 0 l in omega arith

    by : (r : Bool) → MatchBool r ((i : ℕ) × (i < length all) × HoldsAt (λ x. test x ≡ true) all i) (AllWithin (λ x. test x ≡ false) all 0 (length all)) → r ≡ any n test
    by true w =
        let l : w.0 < n = omega (arith, length-range_with_len 0 n, w.1) in
        sym (any_at test n w.0 l (subst (λ (x : ℕ). test x ≡ true) (at w.0 l) (w.2 0)))
    by false w =
        sym (any_fails n test (λ i l. subst (λ (x : ℕ). test x ≡ false) (at i l) (w i 0 (omega arith) (omega (arith, length-range_with_len 0 n)))))
