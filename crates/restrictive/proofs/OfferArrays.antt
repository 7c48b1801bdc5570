-- The arrays that the code makes hold the classes that the rules ask about, and the states that they permit.
use Prim.Native.Nat.{ℕ, ◌≤◌, ◌<◌}
use mathlib.Core.Path.{◌≡◌, refl, sym, ap, ◌∙◌, subst}
use mathlib.Core.Bool.{Bool, true, false, not, ◌||◌, ◌&&◌}
use mathlib.Core.List.{List}
use lib.ListN.{get_or}
use lib.Dec.{eqb}
use borrow.Author.Tests.{eq-eqb, eqb-true, lt-ltb}
use Rattle.bounded.specs.Search.{any}
use Rattle.bounded.proofs.Search.{both_found, both_at, any_same, all_same, same_truth, and_now}
use Rattle.words.specs.Sets.{bit, Rows, gathered}
use Rattle.words.proofs.Sets.{gathered-within}
use Rattle.part.specs.Record.{states, events, row, Observer}
use Rattle.part.specs.Frame.{Framed}
use Rattle.partition.specs.Classes.{same_class}
use Rattle.partition.specs.Sets.{ClassOf, ClassMates, offered, offered_states}
use Rattle.relations.specs.Relations.{leads, reach_for, rule_at}
use Rattle.restrictive.specs.Tests.{around}
use Rattle.relations.specs.Sets.{RowsWithin, Concerned}
use Rattle.restrictive.specs.Sets.{led_to, reached, offer, beside, permits, Offers, Permitted, OfferedDirectly}
use Rattle.restrictive.specs.Sets.{OfferedSilently}
use Rattle.restrictive.proofs.Offers.{permits_own, eqb_swap}
use Rattle.relations.proofs.SilentReach.{reach_alone, reach-within}

-- ---- what gathering gives where the sets are known

-- The members of x below n pass the test f, it has no others, and the words of the table pass g.
gathered_as : (n x : ℕ) (table : List ℕ) (f : ℕ → Bool) (g : ℕ → ℕ → Bool) → n ≤ 64 → ((t : ℕ) → bit x t ≡ f t)
    → ((t : ℕ) → n ≤ t → f t ≡ false)
    → Rows n table g → (c : ℕ) → gathered 64 x table c ≡ any n (λ t. f t && g t c)
unfolding gathered
gathered_as n x table f g l hf out hg c =
    gathered-within n x table l (λ t h. hf t ∙ out t h) c
    ∙ any_same n _ _ (λ t h.
    ap (λ (p : Bool). p && bit (get_or table t 0) c) (hf t) ∙ ap (λ (q : Bool). f t && q) (hg t h c))

-- The last of three searches can be made first.
module _ (n : ℕ) (f : ℕ → Bool) (g h : ℕ → ℕ → Bool) (k : ℕ → Bool) where
  abbrev inner : ℕ → Bool
  inner q = any n (λ v. h q v && k v)

  abbrev outer : ℕ → Bool
  outer v = any n (λ p. f p && any n (λ q. g p q && h q v))

  last-first : any n (λ p. f p && any n (λ q. g p q && inner q)) ≡ any n (λ v. outer v && k v)
  last-first =
      same_truth _ _
      (λ e.
      let (p, p-below, at_p, rest) = both_found n f _ e in
      let (q, q-below, at-q, ends) = both_found n (g p) inner rest in
      let (v, v_below, at-v, good) = both_found n (h q) k ends in
      both_at n outer k v v_below
      (both_at n f (λ p. any n (λ q. g p q && h q v)) p p-below at_p (both_at n (g p) (λ q. h q v) q q-below at-q at-v))
      good)
      (λ e.
      let (v, v_below, ways, good) = both_found n outer k e in
      let (p, p-below, at_p, rest) = both_found n f (λ p. any n (λ q. g p q && h q v)) ways in
      let (q, q-below, at-q, at-v) = both_found n (g p) (λ q. h q v) rest in
      both_at n f _ p p-below at_p (both_at n (g p) inner q q-below at-q (both_at n (h q) k v v_below at-v good)))

-- A search that only u passes finds what u has.
any_self : (n u : ℕ) (f : ℕ → Bool) → u < n → any n (λ v. eqb u v && f v) ≡ f u
any_self n u f h =
    same_truth _ _
    (λ e. let (v, below, same, good) = both_found n (eqb u) f e in
    subst (λ (w : ℕ). f w ≡ true) (sym (eqb-true u v same)) good)
    (λ e. both_at n (eqb u) f u h (eq-eqb u u refl) e)

-- ---- what states offer at an event

-- the classes behind silent steps, the event and silent steps
around-classes : (b : List ℕ) (l : ℕ) (class : ℕ → ℕ) (i u c : ℕ)
    → any (states b) (λ p. reach_for b l u p && any (states b) (λ q. leads b i p q && reached b l class q c))
    ≡ any (states b) (λ v. around b l i u v && eqb (class v) c)
unfolding around reached
around-classes b l class i u c =
    last-first _ (reach_for b l u) (leads b i) (reach_for b l) (λ v. eqb (class v) c)

module _ (b : List ℕ) (l : ℕ) (class : ℕ → ℕ) (framed : Framed b) (within : RowsWithin b) where
  -- the rows of an event, looked up in a table that is known
  looked_as : (i s : ℕ) (table : List ℕ) (g : ℕ → ℕ → Bool) → i < events b → s < states b → Rows (states b) table g
      → (c : ℕ) → gathered 64 (row b i s) table c ≡ any (states b) (λ t. leads b i s t && g t c)
  unfolding leads
  looked_as i s table g p h of =
      gathered_as (states b) (row b i s) table (leads b i s) g framed.few.most_states (λ t. refl)
      (λ t l. within i s t p h l) of

  -- the closure of a state, looked up likewise
  closure_as : (closure table : List ℕ) (g : ℕ → ℕ → Bool) → Rows (states b) closure (reach_for b l)
      → Rows (states b) table g
      → (s : ℕ) → s < states b → (c : ℕ)
      → gathered 64 (get_or closure s 0) table c ≡ any (states b) (λ t. reach_for b l s t && g t c)
  closure_as closure table g closed of s h =
      gathered_as (states b) (get_or closure s 0) table (reach_for b l s) g framed.few.most_states (closed s h)
      (λ t m. reach-within b l within s t h m) of

  -- the classes of the closure
  pub reached-classes : (closure own words : List ℕ) → Rows (states b) closure (reach_for b l)
      → ClassOf (states b) class own
      → Rows (states b) words (λ s. gathered 64 (get_or closure s 0) own) → Rows (states b) words (reached b l class)
  unfolding reached
  reached-classes closure own words closed owns g s h c = g s h c
      ∙ closure_as closure own (λ t x. eqb (class t) x) closed owns.words s h c

  -- rule 3
  pub direct_led : (own : List ℕ) → ClassOf (states b) class own → OfferedDirectly b l class 2 own
  unfolding offer rule_at led_to
  direct_led own owns i p words up s h c = up s h c ∙ looked_as i s _ (λ t x. eqb (class t) x) p h owns.words c

  -- rule 5
  pub around_offers : (closure table : List ℕ) → Rows (states b) closure (reach_for b l)
      → Rows (states b) table (reached b l class) → OfferedSilently b l class 4 closure table
  unfolding offer rule_at
  around_offers closure table closed of i p after words up g s h c =
      g s h c
      ∙ closure_as closure after _ closed (λ v l x. up v l x ∙ looked_as i v _ _ p l of x) s h c
      ∙ around-classes b l class i s c

  -- rule 5 without silent events: nothing but the event
  module _ (silent : ℕ) (of : Concerned b l 3 silent) (empty : silent ≡ 0) where
    alone : (s t : ℕ) → s < states b → reach_for b l s t ≡ eqb s t
    alone = reach_alone b l silent of empty

    reached_own : (q c : ℕ) → q < states b → reached b l class q c ≡ eqb (class q) c
    unfolding reached
    reached_own q c h =
        any_same _ _ _ (λ v l. ap (λ (p : Bool). p && eqb (class v) c) (alone q v h)) ∙ any_self _ q _ h

    pub direct_alone : (own : List ℕ) → ClassOf (states b) class own → OfferedDirectly b l class 4 own
    unfolding offer rule_at
    direct_alone own owns i p words up s h c =
        up s h c ∙ looked_as i s _ (λ t x. eqb (class t) x) p h owns.words c
        ∙ sym (any_same _ _ _ (λ q l. ap (λ (r : Bool). leads b i s q && r) (reached_own q c l)))
        ∙ sym (any_self _ s _ h)
        ∙ sym (any_same _ _ _
        (λ v m. ap (λ (r : Bool). r && any (states b) (λ q. leads b i v q && reached b l class q c)) (alone s v h)))
        ∙ around-classes b l class i s c

-- rule 4: the classes of the closure, whatever the event is
pub reached_offers : (b : List ℕ) (l : ℕ) (class : ℕ → ℕ) (words : List ℕ) → Rows (states b) words (reached b l class) → (i : ℕ)
    → Offers b l class 3 i words
unfolding offer rule_at
reached_offers b l class words g i = g

-- ---- the states that an event may lead to

pub offered_permitted : (b : List ℕ) (o : Observer) (k i : ℕ) (offers words : List ℕ)
    → Offers b o.level o.class k i offers
    → Rows (states b) words (offered_states (states b) o.class (beside o (rule_at k)) offers) → Permitted b o k i words
unfolding permits offered offered_states same_class
offered_permitted b o k i offers words offering g s h t l =
    g s h t ∙ and_now _ _ (lt-ltb _ _ l)
    ∙ all_same _ _ _
    (λ u m. ap (λ (p : Bool). not (eqb (beside o (rule_at k) u) (beside o (rule_at k) s)) || p) (offering u m (o.class t)))

pub mates_permitted : (b : List ℕ) (o : Observer) (words : List ℕ) → ClassMates (states b) o.class words → (i : ℕ)
    → Permitted b o 1 i words
unfolding rule_at same_class
mates_permitted b o words g i s h t l =
    g.words s h t ∙ and_now _ _ (lt-ltb _ _ l) ∙ eqb_swap (o.class t) (o.class s)
    ∙ sym (permits_own b o i s _ h)
