-- A hookup of restrictive machines is restrictive. At every event one component leads: it has the composite's event and
-- the other lacks it and stays, or the event is its output and the other's input, and silent in the composite. The
-- leader answers by its own rule; the other moves along, in its class at a high event and by rule 3 at a low one.
-- Silent steps of one component are silent steps of the composite.
use Prim.Native.Nat.{ℕ}
use mathlib.Core.Path.{◌≡◌, refl, sym, ap, ◌∙◌, subst}
use mathlib.Core.Bool.{Bool, true, false}
use mathlib.Core.Logic.{◌⊎◌, inl, inr, ⊎_elim}
use Rattle.machine.specs.Machine.{input, output, Event, Machine, Observation, Refined}
use Rattle.machine.specs.Roles.{
  Role,
  missing,
  low_input,
  high_input,
  low_output,
  silent,
  at_level,
  role_of,
  role,
  IsInput,
}
use Rattle.machine.specs.Silent.{Silent, still, then}
use Rattle.machine.specs.Rules.{Rule, rule_1, rule_2, rule_3, rule_4, rule_5, Asks, Answers, Restrictive}
use Rattle.machine.specs.Hookup.{
  Combines,
  neither,
  left_only,
  right_only,
  left_sends,
  right_sends,
  Move,
  steps,
  stays,
  IsHookup,
  IsProduct,
  HookupRestrictive,
}
use Rattle.machine.proofs.Silent.{around_alone, around_wider, answer-silent}
use Rattle.machine.proofs.Traces.{Present, Sounds, missing-absent, not-missing}

-- ---- left and right

combines_swap : {x y z : Event} → Combines x y z → Combines y x z
combines_swap neither = neither
combines_swap left_only = right_only
combines_swap right_only = left_only
combines_swap left_sends = right_sends
combines_swap right_sends = left_sends

module _ {SA SB SN : Type 0} {pair : SA → SB → SN} where
  pub hookup_swap : {A : Machine SA} {B : Machine SB} {N : Machine SN} → IsHookup A B N pair
      → IsHookup B A N (λ b a. pair a b)
  hookup_swap H =
      record {
        combined = λ e. combines_swap (H.combined e);
        moves = λ e b b' a a'. (
          λ p. let m = (H.moves e a a' b b').0 p in (λ z. m.0 (z.1, z.0), m.2, m.1),
          λ m. (H.moves e a a' b b').1 (λ z. m.0 (z.1, z.0), m.2, m.1),
        );
        starts = H.starts;
        paired = λ s. let w = H.paired s in (w.1, w.0, w.2);
        apart = λ b b' a a' q. let w = H.apart a a' b b' q in (w.1, w.0);
      }

  pub product_swap : {OA : Observation SA} {OB : Observation SB} {ON : Observation SN} → IsProduct OA OB ON pair
      → IsProduct OB OA ON (λ b a. pair a b)
  product_swap P =
      record {
        left_low = P.right_low;
        right_low = P.left_low;
        classes =
            λ b b' a a'.
            (λ q. let w = (P.classes a a' b b').0 q in (w.1, w.0), λ w. (P.classes a a' b b').1 (w.1, w.0));
        fine_classes =
            λ b b' a a'.
            (λ q. let w = (P.fine_classes a a' b b').0 q in (w.1, w.0), λ w. (P.fine_classes a a' b b').1 (w.1, w.0));
      }

-- ---- the roles of an event in the leading component, in the other one and in the composite

data Led : Role → Role → Role → Type 0 where
  alone : {r : Role} → Led r missing r
  low_shared : Led low_output low_input silent
  high_shared : Led silent high_input silent

shared : (k : Bool) → Led (at_level output k) (at_level input k) silent
unfolding at_level
shared true = low_shared
shared false = high_shared

-- One of the components leads.
abbrev Either_led : Role → Role → Role → Type 0
Either_led p q r = Led p q r ⊎ Led q p r

combines_led : (is_low : ℕ → Bool) {x y z : Event} → Combines x y z
    → Either_led (role_of is_low x) (role_of is_low y) (role_of is_low z)
unfolding role_of at_level
combines_led is_low neither = inl alone
combines_led is_low left_only = inl alone
combines_led is_low right_only = inr alone
combines_led is_low (left_sends {l}) = inl (shared (is_low l))
combines_led is_low (right_sends {l}) = inr (shared (is_low l))

-- The event is missing, or has this role.
abbrev Lacks_or : Role → Role → Type 0
Lacks_or x r = (r ≡ missing) ⊎ (r ≡ x)

-- Where the composite's role is not a silent one, it is the leader's, and the other component lacks the event.
leads_alone : {x p q r : Role} → Sounds x → Led p q r → r ≡ x → (p ≡ x) × (q ≡ missing)
leads_alone n alone h = (h, refl)
leads_alone n low_shared h = absurd (subst Sounds (sym h) n)
leads_alone n high_shared h = absurd (subst Sounds (sym h) n)

leads-input : {p q r : Role} → Led p q r → IsInput r → IsInput p × (q ≡ missing)
leads-input l (inl h) = let i = leads_alone tt l h in (inl i.0, i.1)
leads-input l (inr h) = let i = leads_alone tt l h in (inr i.0, i.1)

-- A silent event of the composite is silent in the leader, and the other lacks it or has it as a high input; or it is a
-- low output of the leader, and a low input of the other.
leads-silent : {p q r : Role} → Led p q r → r ≡ silent
    → ((p ≡ silent) × Lacks_or high_input q) ⊎ ((p ≡ low_output) × Lacks_or low_input q)
leads-silent alone h = inl (h, inl refl)
leads-silent low_shared h = inr (refl, inr refl)
leads-silent high_shared h = inl (refl, inr refl)

-- A silent event of either component is silent in the composite, and the other lacks it or has it as a high input.
silent_led : {p q r : Role} → Either_led p q r → p ≡ silent → (r ≡ silent) × Lacks_or high_input q
silent_led (inl alone) h = (h, inl refl)
silent_led (inl low_shared) h = absurd (subst Sounds h tt)
silent_led (inl high_shared) h = (refl, inr refl)
silent_led (inr alone) h = absurd (subst Present (sym h) tt)
silent_led (inr low_shared) h = absurd (subst Sounds h tt)
silent_led (inr high_shared) h = absurd (subst Sounds h tt)

-- ---- the moves of one component

module _ {S : Type 0} (M : Machine S) (O : Observation S) (e : ℕ) where
  -- The move of a machine that has the event, as its role shows, is a step.
  moved : {x : Role} → Present x → role M O e ≡ x → {s t : S} → Move M e s t → M.step e s t
  unfolding role_of
  moved n h (steps p) = p
  moved n h (stays z) = absurd (subst Present (sym h ∙ ap (role_of O.low) z) n)

-- Rules 1 to 3 hold of the moves of a restrictive machine as they do of its steps.
module _ {S : Type 0} (M : Machine S) (O : Observation S) (R : Restrictive M O) (e : ℕ) where
  high_keeps : {s t : S} → Lacks_or high_input (role M O e) → Move M e s t → O.class t ≡ O.class s
  high_keeps i (stays z) = refl
  high_keeps (inl z) (steps p) = absurd (not-missing M O p z)
  high_keeps {s} {t} (inr h) (steps p) = R rule_2 e s t s (h, p)

  high_move : Lacks_or high_input (role M O e) → (s : S) → (t : S) × Move M e s t × (O.class t ≡ O.class s)
  high_move (inl z) s = (s, stays (missing-absent _ (M.events e) z), refl)
  high_move (inr h) s =
      let w = R rule_1 e s s s (inr h) in
      (w.0, steps w.1, R rule_2 e s w.0 s (h, w.1))

  low_move : {s t : S} → Lacks_or low_input (role M O e) → Move M e s t → (u : S) → O.class u ≡ O.class s
      → (v : S) × Move M e u v × (O.class v ≡ O.class t)
  low_move i (stays z) u q = (u, stays z, q)
  low_move (inl z) (steps p) u q = absurd (not-missing M O p z)
  low_move {s} {t} (inr h) (steps p) u q = let w = R rule_3 e s t u (h, p, q) in (w.0, steps w.1, w.2)

-- ---- the composite

module _ {SA SB SN : Type 0} {A : Machine SA} {B : Machine SB} {N : Machine SN} {OA : Observation SA}
    {OB : Observation SB} {ON : Observation SN}
    {pair : SA → SB → SN} (H : IsHookup A B N pair) (P : IsProduct OA OB ON pair) (F : Refined OB)
    (Ra : Restrictive A OA) (RB : Restrictive B OB) where
  either_led : (e : ℕ) → Either_led (role A OA e) (role B OB e) (role N ON e)
  either_led e = rw (P.left_low, P.right_low) (combines_led _ (H.combined e))

  -- A step of A, with B's move, is a step of N.
  led_step : {e : ℕ} {a a' : SA} {b b' : SB} → A.step e a a' → Move B e b b' → N.step e (pair a b) (pair a' b')
  led_step {e} {a} {a'} {b} {b'} p m = (H.moves e a a' b b').1 (λ z. A.present e a a' p z.0, steps p, m)

  -- Silent steps of A are silent steps of N, in which B keeps its class.
  lift : {a a' : SA} → Silent A OA a a' → (b : SB)
      → (b' : SB) × Silent N ON (pair a b) (pair a' b') × (OB.class b' ≡ OB.class b)
  lift still b = (b, still, refl)
  lift (then e h p rest) b =
      let i = silent_led (either_led e) h in
      let w = high_move B OB RB e i.1 b in
      let x = lift rest w.0 in
      (x.0, then e i.0 (led_step p w.1) x.1, x.2 ∙ w.2)

  -- Where N steps from (a, b) to (a', b').
  module _ (e : ℕ) {a a' : SA} {b b' : SB} (p : N.step e (pair a b) (pair a' b')) where
    abbrev follows : Move B e b b'
    follows = ((H.moves e a a' b b').0 p).2

    led_by : {x : Role} → Present x → role A OA e ≡ x → A.step e a a'
    led_by n h = moved A OA e n h ((H.moves e a a' b b').0 p).1

    together : {v : SA} {w : SB} → OA.class v ≡ OA.class a' → OB.class w ≡ OB.class b'
        → ON.class (pair v w) ≡ ON.class (pair a' b')
    together {v} {w} x y = (P.classes v a' w b').1 (x, y)

    -- And (c, d) has the fine class of (a, b): so c has the fine class of a, and d the class of b.
    module _ {c : SA} {d : SB} (q : ON.fine (pair c d) ≡ ON.fine (pair a b)) where
      abbrev alike : (OA.fine c ≡ OA.fine a) × (OB.class d ≡ OB.class b)
      alike = let w = (P.fine_classes c a d b).0 q in (w.0, F d b w.1)

      -- A silent event of A: A answers by rule 4, and B keeps its class.
      silently : role A OA e ≡ silent → Lacks_or high_input (role B OB e)
          → Answers N ON rule_4 e (pair a b) (pair a' b') (pair c d)
      silently h i =
          let w = Ra rule_4 e a a' c (h, led_by tt h, alike.0) in
          let x = lift w.1 d in
          (pair w.0 x.0, x.1, together w.2 (x.2 ∙ alike.1 ∙ sym (high_keeps B OB RB e i follows)))

      -- A low output of A: A answers by rule 5, and B follows by rule 3.
      around : role A OA e ≡ low_output → Lacks_or low_input (role B OB e)
          → Answers N ON rule_5 e (pair a b) (pair a' b') (pair c d)
      around h i =
          let w = Ra rule_5 e a a' c (h, led_by tt h, alike.0) in
          let x = lift w.1.before d in
          let y = low_move B OB RB e i follows x.0 (x.2 ∙ alike.1) in
          let z = lift w.1.after y.0 in
          let path = around_wider N ON x.1 (around_alone N ON e (led_step w.1.step y.1)) z.1 in
          (pair w.0 z.0, path, together w.2 (z.2 ∙ y.2))

  -- The rules hold of pairs at an event that A leads.
  led : (e : ℕ) → Led (role A OA e) (role B OB e) (role N ON e) → (r : Rule) (a a' c : SA) (b b' d : SB)
      → Asks N ON r e (pair a b) (pair a' b') (pair c d) → Answers N ON r e (pair a b) (pair a' b') (pair c d)
  led e l rule_1 a a' c b b' d h =
      let i = leads-input l h in
      let w = Ra rule_1 e a a a i.0 in
      (pair w.0 b, led_step w.1 (stays (missing-absent _ (B.events e) i.1)))
  led e l rule_2 a a' c b b' d (h, p) =
      let i = leads_alone tt l h in
      let w = Ra rule_2 e a a' a (i.0, led_by e p tt i.0) in
      (P.classes a' a b' b).1 (w, high_keeps B OB RB e (inl i.1) (follows e p))
  led e l rule_3 a a' c b b' d (h, p, q) =
      let i = leads_alone tt l h in
      let alike = (P.classes c a d b).0 q in
      let w = Ra rule_3 e a a' c (i.0, led_by e p tt i.0, alike.0) in
      let x = low_move B OB RB e (inl i.1) (follows e p) d alike.1 in
      (pair w.0 x.0, led_step w.1 x.1, together e p w.2 x.2)
  led e l rule_4 a a' c b b' d (h, p, q) =
      ⊎_elim
      (λ i. silently e p q i.0 i.1)
      (λ i. answer-silent N ON e (pair a b) (pair a' b') (pair c d) h (around e p q i.0 i.1))
      (leads-silent l h)
  led e l rule_5 a a' c b b' d (h, p, q) =
      let i = leads_alone tt l h in
      around e p q i.0 (inl i.1)

pub hookup_restrictive : HookupRestrictive
hookup_restrictive SA SB SN A B N OA OB ON pair H P FA FB Ra RB r e s t u =
    let x = H.paired s in
    let y = H.paired t in
    let z = H.paired u in
    rw (x.2, y.2, z.2) (elim (either_led H P FB Ra RB e) [
      | inl l ↦ led H P FB Ra RB e l r x.0 y.0 z.0 x.1 y.1 z.1
      | inr l ↦ led (hookup_swap H) (product_swap P) FA RB Ra e l r x.1 y.1 z.1 x.0 y.0 z.0
    ])
