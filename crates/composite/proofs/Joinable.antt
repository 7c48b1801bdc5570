-- The obstacles of the code are the conditions of document 01: 9 and 10 say that two records are not joinable, 10 with
-- the smallest identifier
-- that clashes, and no obstacle says that they join.
use Prim.Native.Nat.{ℕ, ◌*◌, ◌≤◌, ◌<◌}
use mathlib.Core.Path.{◌≡◌, refl, ap, ◌∙◌, subst}
use mathlib.Core.Bool.{true, false, not}
use mathlib.Core.Logic.{◌↔◌}
use mathlib.Core.List.{List}
use mathlib.Core.Option.{Option, none, some}
use native.Mathlib.Decide.{dec_lt}
use native.Mathlib.Omega.{arith}
use lib.Dec.{eqb, ltb}
use lib.ListN.{length}
use borrow.Author.Tests.{eqb-true, eq-eqb, ltb-false, le-ltb, not-false}
use Rattle.bounded.specs.Search.{any, or_else, when}
use Rattle.bounded.proofs.Search.{
  when_none,
  when_some,
  true_not_false,
  is_true,
  or_left,
  or_right,
  or-then,
  any_none,
  any_fails,
  first-none,
  first-nothing,
  first_found,
  first_at,
}
use Rattle.part.specs.Format.{max_states, max_events}
use Rattle.part.specs.Record.{observers, observer, states, events, identifier}
use Rattle.screening.specs.Rejections.{Accepted}
use Rattle.part.specs.Events.{place, event_of}
use Rattle.screening.proofs.Ranges.{ranges}
use Rattle.screening.proofs.Places.{places}
use Rattle.part.proofs.Places.{event-placed}
use Rattle.composite.specs.Meeting.{clashes}
use Rattle.composite.specs.Joined.{merged}
use Rattle.composite.specs.Joining.{
  Obstacle,
  refusal,
  clash,
  levels_differ,
  observers_differ,
  clash_at,
  first_clash,
  too_large,
  obstacle,
}
use Rattle.composite.specs.Theorems.{FitsAt, JoinableExactly, ClashExactly, JoinsExactly}
use Rattle.composite.proofs.Meetings.{clear_opposite, opposite_clear}

or_else_none : (x y : Option Obstacle) → (or_else x y ≡ none) ↔ ((x ≡ none) × (y ≡ none))
unfolding or_else
or_else_none none y = (λ e. (refl, e), λ w. w.1)
or_else_none (some o) y = (λ e. absurd (let z : ◌≡◌ {A = ℕ} 0 1 = cc in omega arith), λ w. w.0)

-- ---- 9 and 10

module _ (a b : List ℕ) where
  abbrev SameObservers : Type 0
  SameObservers = (observers a ≡ observers b) × ((o : ℕ) → o < observers a → observer a o ≡ observer b o)

  observers-equal : (observers_differ a b ≡ false) ↔ SameObservers
  unfolding observers_differ levels_differ
  observers-equal = (
    λ e. (
      eqb-true (observers a) (observers b) (not-false _ (or_left _ (any (observers a) (levels_differ a b)) e)),
      λ o l. eqb-true (observer a o) (observer b o)
          (not-false _ (any_none (levels_differ a b) _ (or_right (not (eqb (observers a) (observers b))) _ e) o l)),
    ),
    λ q.
        or-then _ _ (ap not (eq-eqb (observers a) (observers b) q.0))
        ∙ any_fails _ _ (λ o l. ap not (eq-eqb (observer a o) (observer b o) (q.1 o l))),
  )

  clear-fits : (e : ℕ) → (clashes (event_of a e) (event_of b e) ≡ false) ↔ FitsAt a b e
  clear-fits e = (λ c i j k l p q. clear_opposite i j k l (cc), opposite_clear (event_of a e) (event_of b e))

  no-clash : (n : ℕ) → (clash_at a b n ≡ none) ↔ FitsAt a b (identifier a n)
  unfolding clash_at
  no-clash n =
      let e = identifier a n in
      let t = when_none (clashes (event_of a e) (event_of b e)) (clash e) in
      (λ c. (clear-fits e).0 (t.0 c), λ f. t.1 ((clear-fits e).1 f))

  -- A clash is found where the event does not fit.
  clash-found : (n e : ℕ) → clash_at a b n ≡ some (clash e) → (identifier a n ≡ e) × (FitsAt a b e → ⊥)
  unfolding clash_at
  clash-found n e c =
      let d = identifier a n in
      let w = when_some (clashes (event_of a d) (event_of b d)) (clash d) (clash e) c in
      let q : d ≡ e = cc w.1 in (
        q,
        λ f. true_not_false (subst (λ (x : ℕ). clashes (event_of a x) (event_of b x) ≡ true) q w.0)
            ((clear-fits e).1 f),
      )

  clash_there : (n e : ℕ) → identifier a n ≡ e → (FitsAt a b e → ⊥) → clash_at a b n ≡ some (clash e)
  unfolding clash_at when
  clash_there n e q u = rw (q, is_true (clashes (event_of a e) (event_of b e)) (λ c. u ((clear-fits e).0 c)))

-- Only an event of A can clash.
fits-placed : (a b : List ℕ) (e : ℕ) → ((n : ℕ) → place a e ≡ some n → FitsAt a b e) → FitsAt a b e
fits-placed a b e h i j k l p = let w = event-placed a e i k p in h w.0 w.1 i j k l p

pub joinable-exactly : JoinableExactly
unfolding first_clash
joinable-exactly a b p q = (
  λ w. record {
    as_many = ((observers-equal a b).0 w.0).0;
    levels = ((observers-equal a b).0 w.0).1;
    fits = λ e. fits-placed a b e (λ n h.
        let s = (places a p).stands e n h in
        subst (λ (d : ℕ). FitsAt a b d) s.1
        ((no-clash a b n).0 (first-none (clash_at a b) (events a) w.1 n s.0)));
  },
  λ j. (
    (observers-equal a b).1 (j.as_many, j.levels),
    first-nothing (clash_at a b) (events a)
        (λ n l. (no-clash a b n).1 (j.fits (identifier a n))),
  ),
)

-- ---- the smallest identifier that clashes

module _ (a b : List ℕ) (p : Accepted a) (e : ℕ) where
  first_clash-least : first_clash a b ≡ some (clash e) → (FitsAt a b e → ⊥) × ((d : ℕ) → d < e → FitsAt a b d)
  unfolding first_clash
  first_clash-least c =
      let w = first_found (clash_at a b) (events a) (clash e) c in
      let f = clash-found a b w.at e w.found in (
        f.1,
        λ d l. fits-placed a b d (λ n h.
            let s = (places a p).stands d n h in
            subst (λ (x : ℕ). FitsAt a b x) s.1
            ((no-clash a b n).0 (w.before n (earlier n w.at s.0 (omega arith))))),
      )
    where
      earlier : (n m : ℕ) → n < events a → identifier a n < identifier a m → n < m
      earlier n m h l =
          elim (dec_lt n m) [
            | yes k ↦ k
            | no k ↦ elim (dec_lt m n) [
              | yes u ↦ absurd (omega (arith, (ranges a p).identifiers_rise m n u h))
              | no u ↦ let same : n ≡ m = omega arith in let r = ap (identifier a) same in absurd (omega arith)
            ]
          ]

  least-first_clash : (FitsAt a b e → ⊥) → ((d : ℕ) → d < e → FitsAt a b d) → first_clash a b ≡ some (clash e)
  unfolding first_clash
  least-first_clash u below = go (place a e) refl
    where
      go : (o : Option ℕ) → place a e ≡ o → first_clash a b ≡ some (clash e)
      go none h = absurd (u (fits-placed a b e (λ n k. absurd (let z : ◌≡◌ {A = ℕ} 0 1 = cc in omega arith))))
      go (some n) h =
          let s = (places a p).stands e n h in
          first_at (clash_at a b) (events a) (clash e) (record {
            at = n;
            below = s.0;
            found = clash_there a b n e s.1 u;
            before =
                λ j l. (no-clash a b j).1
                (below (identifier a j) (omega (arith, (ranges a p).identifiers_rise j n l s.0)));
          })

pub clash-exactly : ClashExactly
clash-exactly a b e p q = (first_clash-least a b p e, λ w. least-first_clash a b p e w.0 w.1)

-- ---- 11, and all three

small : (a b : List ℕ) → (too_large a b ≡ false)
    ↔ ((states a * states b ≤ max_states) × (length (merged a b) ≤ max_events))
unfolding too_large
small a b =
    let n = states a * states b in
    let m = length (merged a b) in (
      λ e. (
        ltb-false max_states n (or_left (ltb max_states n) (ltb max_events m) e),
        ltb-false max_events m (or_right (ltb max_states n) (ltb max_events m) e),
      ),
      λ w. or-then (ltb max_states n) (ltb max_events m) (le-ltb max_states n w.0) ∙ le-ltb max_events m w.1,
    )

pub joins-exactly : JoinsExactly
unfolding obstacle
joins-exactly a b p q =
    let nine = when (observers_differ a b) (refusal 9) in
    let eleven = when (too_large a b) (refusal 11) in
    let outer = or_else_none nine (or_else (first_clash a b) eleven) in
    let inner = or_else_none (first_clash a b) eleven in
    let differ = when_none (observers_differ a b) (refusal 9) in
    let large = when_none (too_large a b) (refusal 11) in
    let exactly = joinable-exactly a b p q in (
      λ e.
          let o = outer.0 e in
          let i = inner.0 o.1 in
          let s = (small a b).0 (large.0 i.1) in
          record { joinable = exactly.0 (differ.0 o.0, i.0); few_states = s.0; few_events = s.1 },
      λ j.
          let w = exactly.1 j.joinable in
          outer.1 (differ.1 w.0, inner.1 (w.1, large.1 ((small a b).1 (j.few_states, j.few_events)))),
    )
