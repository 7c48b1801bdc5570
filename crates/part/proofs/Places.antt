-- The search for an event's place, along identifiers that rise, and what stands under an identifier.
use Prim.Native.Nat.{ℕ, ◌+◌, ◌-◌, ◌≤◌, ◌<◌}
use mathlib.Core.Path.{◌≡◌, refl, subst}
use mathlib.Core.Logic.{◌↔◌}
use mathlib.Core.List.{List}
use mathlib.Core.Option.{Option, none, some}
use native.Mathlib.Decide.{dec_lt, ℕ_discrete}
use native.Mathlib.Omega.{arith}
use borrow.Author.Tests.{eq-eqb, ne_eqb}
use lib.Dec.{T}
use Rattle.bounded.specs.Search.{first}
use Rattle.bounded.proofs.Search.{first_more, first-nothing, first_found, first_at, first_hit, first_done}
use Rattle.machine.specs.Machine.{Kind, absent, event}
use Rattle.words.specs.Sets.{bit}
use Rattle.part.specs.Record.{events, identifier, event_kind, level, row}
use Rattle.part.specs.Frame.{Rising}
use Rattle.part.specs.Events.{kind_of, at_place, place, event_of, Leads}
use Rattle.part.proofs.Rising.{rises_le}

module _ (b : List ℕ) (e i : ℕ) where
  at_same : identifier b i ≡ e → at_place b e i ≡ some i
  unfolding at_place
  at_same q = rw (eq-eqb _ e q, at_place)

  at_other : (identifier b i ≡ e → ⊥) → at_place b e i ≡ none
  unfolding at_place
  at_other n = rw (ne_eqb _ e n, at_place)

  at_some : (j : ℕ) → at_place b e i ≡ some j → (i ≡ j) × (identifier b i ≡ e)
  at_some j p =
      elim (ℕ_discrete (identifier b i) e) [
        | yes q ↦ (let s = at_same q in cc, q)
        | no n ↦ absurd
            (let s = at_other n in let z : ◌≡◌ {A = ℕ} 0 1 = cc in omega arith)
      ]

module _ (b : List ℕ) (e : ℕ) where
  -- a place that is found is one of the record's, and e stands there
  pub place-stands : (i : ℕ) → place b e ≡ some i → (i < events b) × (identifier b i ≡ e)
  unfolding place
  place-stands i p =
      let w = first_found _ _ i p in
      let s = at_some b e _ i w.found in
      (subst (λ (j : ℕ). j < events b) s.0 w.below, subst (λ (j : ℕ). identifier b j ≡ e) s.0 s.1)

  -- ---- the loop that looks for e: not at the places below i

  abbrev pub Missed : ℕ → Type 0
  Missed i = first i (at_place b e) ≡ none

  pub missed_none : Missed 0
  unfolding first
  missed_none = refl

  pub missed_next : (i : ℕ) → Missed i → (identifier b i ≡ e → ⊥) → Missed (i + 1)
  missed_next i p n = first_more _ i p (at_other b e i n)

  pub place_hit : (i : ℕ) → i < events b → Missed i → identifier b i ≡ e → place b e ≡ some i
  unfolding place
  place_hit i h p q = first_hit _ _ i i h p (at_same b e i q)

  pub place_done : (i : ℕ) → i ≡ events b → Missed i → place b e ≡ none
  unfolding place
  place_done i q p = first_done _ _ i q p

  -- ---- where the identifiers rise: what one place tells

  pub rising_place : Rising b → (i : ℕ) → i < events b → identifier b i ≡ e → place b e ≡ some i
  unfolding place
  rising_place up i h q =
      first_at _ _ i
      (record {
        at = i;
        below = h;
        found = at_same b e i q;
        before =
            λ j l. at_other b e j (λ p. omega (arith, up j i l h));
      })

  -- e lies between the identifiers before the place i and at it
  pub rising_gap : Rising b → (i : ℕ) → i ≤ events b → (i < events b → e < identifier b i)
      → (0 < i → identifier b (i - 1) < e)
      → place b e ≡ none
  unfolding place
  rising_gap up i h above below =
      let le = rises_le _ _ up in
      first-nothing _ _ (λ j l. at_other b e j (λ q.
      elim (dec_lt j i) [
        | yes n ↦ omega (arith, below (omega arith), le j (i - 1) (omega arith) (omega arith))
        | no n ↦ omega (arith, above (omega arith), le i j (omega arith) l)
      ]))

pub ruleset looking = (missed_none, missed_next, place_hit, place_done)

module _ (b : List ℕ) (e : ℕ) where
  pub event-none : place b e ≡ none → event_of b e ≡ absent
  unfolding event_of
  event-none p = rw (p, event_of)

  pub event_at : (i : ℕ) → place b e ≡ some i → event_of b e ≡ event (kind_of (event_kind b i)) (level b i)
  unfolding event_of
  event_at i p = rw (p, event_of)

  -- an event that is there has a place
  pub event-placed : (k : Kind) (l : ℕ) → event_of b e ≡ event k l → (i : ℕ) × (place b e ≡ some i)
  event-placed k l q = go (place b e) refl
    where
      go : (o : Option ℕ) → place b e ≡ o → (i : ℕ) × (place b e ≡ some i)
      go none p = absurd (let n = event-none p in let z : ◌≡◌ {A = ℕ} 0 1 = cc in omega arith)
      go (some i) p = (i, p)

  -- it leads where its row at that place says
  pub leads_at : (i s t : ℕ) → place b e ≡ some i → Leads b e s t ↔ T (bit (row b i s) t)
  leads_at i s t p = (
    λ l. let q : l.at ≡ i = cc l.placed in subst (λ (j : ℕ). T (bit (row b j s) t)) q l.set,
    λ m. record { at = i; placed = p; set = m },
  )
