-- Mislabelled levels: the test decides them, and what the code asks of rank and compartments is the test.
use Prim.Native.Nat.{ℕ}
use mathlib.Core.Path.{◌≡◌, refl, ap, sym, ◌∙◌}
use mathlib.Core.Bool.{false, not}
use mathlib.Core.Logic.{◌↔◌}
use lib.Dec.{T, eqb}
use borrow.Author.Tests.{eq-eqb, ne_eqb, eqb-true}
use Rattle.bounded.specs.Search.{any}
use Rattle.bounded.proofs.Search.{any_at, any_fails, any_found, and_left, and_right, and_now, and_never, passed, passes}
use Rattle.bounded.proofs.Search.{is_true, any_none, same_truth, true_not_false}
use Rattle.words.specs.Sets.{bit}
use Rattle.words.proofs.Sets.{bit_zero, no_members}
use Rattle.level.specs.Level.{rank, compartments, Mislabelled, mislabelled}
use Rattle.level.proofs.Order.{bit-compartments, compartments_lt}

-- The test holds exactly where the level is mislabelled.
pub mislabelled_iff : (a : ℕ) → T (mislabelled a) ↔ Mislabelled a
unfolding mislabelled
mislabelled_iff a = (to, from)
  where
    to : T (mislabelled a) → Mislabelled a
    to t =
        let e = passed _ t in
        let w = any_found 6 (bit a) (and_right (eqb (rank a) 0) (any 6 (bit a)) e) in
        record {
          lowest = eqb-true _ _ (and_left (eqb (rank a) 0) (any 6 (bit a)) e);
          compartment = (w.0, w.1, passes w.2);
        }

    from : Mislabelled a → T (mislabelled a)
    from w =
        let c = w.compartment in
        passes (and_now _ _ (eq-eqb _ _ w.lowest) ∙ any_at (bit a) 6 c.0 c.1 (passed _ c.2))

-- A level of which the test fails is not mislabelled.
pub labelled : (a : ℕ) → mislabelled a ≡ false → Mislabelled a → ⊥
labelled a e w = true_not_false (passed _ ((mislabelled_iff a).1 w)) e

pub zero_labelled : mislabelled 0 ≡ false
unfolding mislabelled rank any bit
zero_labelled = refl

-- ---- the test that the code makes: the rank, and whether there are no compartments

module _ (a : ℕ) where
  -- no compartment bit exactly if the set of compartments is empty
  emptied : any 6 (bit a) ≡ false → compartments a ≡ 0
  emptied e = no_members 6 _ (compartments_lt a) (λ c h. bit-compartments a c h ∙ any_none (bit a) 6 e c h)

  none-held : compartments a ≡ 0 → any 6 (bit a) ≡ false
  none-held e = any_fails 6 (bit a) (λ c h. sym (bit-compartments a c h) ∙ ap (λ (x : ℕ). bit x c) e ∙ bit_zero c)

  held : any 6 (bit a) ≡ not (eqb (compartments a) 0)
  held =
      same_truth _ _
      (λ t. ap not (ne_eqb _ _ (λ e. true_not_false t (none-held e))))
      (λ t. is_true _ (λ f. true_not_false t (ap not (eq-eqb _ _ (emptied f)))))

  pub rank_higher : (rank a ≡ 0 → ⊥) → mislabelled a ≡ false
  unfolding mislabelled
  rank_higher n = and_never _ _ (ne_eqb _ _ n)

  pub lowest_rank : rank a ≡ 0 → mislabelled a ≡ not (eqb (compartments a) 0)
  unfolding mislabelled
  lowest_rank r = and_now _ _ (eq-eqb _ _ r) ∙ held
