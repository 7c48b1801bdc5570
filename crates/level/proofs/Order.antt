-- The order on levels: the test decides it, and comparing the compartments as sets is the test.
use Prim.Native.Nat.{ℕ, ◌^◌, ◌≤◌, ◌<◌}
use mathlib.Core.Path.{◌≡◌, refl, sym, ap, ◌∙◌}
use mathlib.Core.Bool.{Bool, true, false, not, ◌||◌, ◌&&◌}
use native.Mathlib.Nat.{mod-lt}
use native.Mathlib.Decide.{ℕ_discrete as dec_eq}
use lib.Dec.{T, leb, eqb, lit<}
use borrow.Author.Tests.{leb-true, le-leb, lt-leb, eq-eqb, ne_eqb}
use Rattle.bounded.specs.Search.{all}
use Rattle.bounded.proofs.Search.{all_intro, all_at, and_left, and_right, passed, passes, is_false}
use Rattle.words.specs.Sets.{bit, intersection}
use Rattle.words.proofs.Sets.{bit-intersection, bit_mod, same_members, intersection_lt}
use Rattle.level.specs.Level.{rank, compartments, AtOrBelow, at_or_below}

-- "if a then b" as a test
imp : (a b : Bool) → (not a || b) ≡ true → T a → T b
imp true b e t = passes e
imp false b e t = absurd t

imp_intro : (a b : Bool) → (T a → T b) → (not a || b) ≡ true
imp_intro true b h = passed b (h tt)
imp_intro false b h = refl

-- The test holds exactly where the relation does.
pub at_or_below_iff : (a b : ℕ) → (T (at_or_below a b) → AtOrBelow a b) × (AtOrBelow a b → T (at_or_below a b))
unfolding at_or_below
at_or_below_iff a b = (to, from)
  where
    each_in : ℕ → Bool
    each_in c = not (bit a c) || bit b c

    to : T (at_or_below a b) → AtOrBelow a b
    to t =
        let e = passed _ t in
        record {
          ranks = leb-true _ _ (and_left (leb (rank a) (rank b)) (all 6 each_in) e);
          within = λ c h. imp (bit a c) (bit b c)
              (all_at each_in 6 (and_right (leb (rank a) (rank b)) (all 6 each_in) e) c h);
        }

    from : AtOrBelow a b → T (at_or_below a b)
    from w = passes
        (ap (λ (x : Bool). x && all 6 each_in) (le-leb _ _ w.ranks)
        ∙ all_intro each_in 6 (λ c h. imp_intro (bit a c) (bit b c) (w.within c h)))

-- ---- the comparison that the code makes: the ranks, and whether the common compartments are all of a's

-- a compartment of the byte is one of its set of compartments
pub bit-compartments : (x c : ℕ) → c < 6 → bit (compartments x) c ≡ bit x c
unfolding compartments
bit-compartments x c h = bit_mod 6 x c h

pub compartments_lt : (x : ℕ) → compartments x < 2 ^ 6
unfolding compartments
compartments_lt x = mod-lt x (lit< tt)

shared : (a b c : ℕ) → c < 6 → bit (intersection (compartments a) (compartments b)) c ≡ (bit a c && bit b c)
shared a b c h =
    bit-intersection (compartments a) (compartments b) c
    ∙ ap (λ (p : Bool). p && bit (compartments b) c) (bit-compartments a c h)
    ∙ ap (λ (q : Bool). bit a c && q) (bit-compartments b c h)

both_is_left : (p q : Bool) → (p && q) ≡ p → T p → T q
both_is_left true q e t = passes e
both_is_left false q e t = absurd t

left_is_both : (p q : Bool) → (T p → T q) → (p && q) ≡ p
left_is_both true q h = passed q (h tt)
left_is_both false q h = refl

module _ (a b : ℕ) where
  pub rank_above : rank b < rank a → at_or_below a b ≡ false
  unfolding at_or_below
  rank_above h = rw (lt-leb (rank a) (rank b) h)

  all_common : rank a ≤ rank b → intersection (compartments a) (compartments b) ≡ compartments a
      → at_or_below a b ≡ true
  all_common r e =
      passed (at_or_below a b) ((at_or_below_iff a b).1 (record {
        ranks = r;
        within = λ c h. both_is_left (bit a c) (bit b c)
            (sym (shared a b c h) ∙ ap (λ (x : ℕ). bit x c) e ∙ bit-compartments a c h);
      }))

  some-missing : (intersection (compartments a) (compartments b) ≡ compartments a → ⊥) → at_or_below a b ≡ false
  some-missing n =
      is_false (at_or_below a b) (λ t.
      n (same_members 6 _ _ (intersection_lt 6 _ _ (compartments_lt a) (compartments_lt b)) (compartments_lt a) (λ c h.
      shared a b c h ∙ left_is_both (bit a c) (bit b c) (((at_or_below_iff a b).0 (passes t)).within c h)
      ∙ sym (bit-compartments a c h))))

  -- Where the ranks allow it, the comparison of the compartments is the test.
  pub compared : rank a ≤ rank b → eqb (intersection (compartments a) (compartments b)) (compartments a) ≡ at_or_below a b
  compared r =
      elim (dec_eq (intersection (compartments a) (compartments b)) (compartments a)) [
        | yes e ↦ eq-eqb _ _ e ∙ sym (all_common r e)
        | no n ↦ ne_eqb _ _ n ∙ sym (some-missing n)
      ]
