-- What is proved of the verdict and the count, as statements over all bytes. Their proofs stand in proofs/ under the names in lower case.
use Rattle.std.specs.Prelude.{ℕ, ◌*◌, ◌≤◌, ◌<◌, ◌≡◌, ◌↔◌, ◌⊎◌, List, [], ◌∷◌, true, false, length}
use Rattle.bounded.specs.Search.{Below, total}
use Rattle.machine.specs.Rules.{Rule, rule_1, rule_2, rule_3, rule_4, rule_5, Restrictive, Broken}
use Rattle.machine.specs.Noninterference.{Noninterfering}
use Rattle.part.specs.Record.{kind, observers, observer, states, column, fine_column}
use Rattle.words.specs.LittleEndian.{byte}
use Rattle.partition.specs.Theorems.{LimitOf}
use Rattle.part.specs.Format.{limited_kind}
use Rattle.screening.specs.Rejections.{Condition, conditions, Accepted}
use Rattle.screening.specs.Machine.{State, machine, observation}
use Rattle.relations.specs.Relations.{visits}
use Rattle.restrictive.specs.Verdict.{Violation, pass, refused, breaks, verdict, taken, told_limit}
use Rattle.restrictive.specs.Earlier.{as_outputs}

-- A record passes exactly if no rejection applies to it and its machine is restrictive with each of its observations, which have their own
-- partitions (demand 2; document 02, k).
abbrev pub PassesExactly : Type 0
PassesExactly =
    (b : List ℕ)
    → (verdict b ≡ pass) ↔ ((a : Accepted b) × ((o : ℕ) → o < observers b → Restrictive (machine b a) (observation b o)))

-- The condition with number k holds, and none before it in the list.
pub data FirstHolding (b : List ℕ) : List Condition → ℕ → Type 0 where
  here : {c : Condition} {cs : List Condition} → c.holds b ≡ true → FirstHolding b (c ∷ cs) c.number
  later : {c : Condition} {cs : List Condition} {k : ℕ} → c.holds b ≡ false → FirstHolding b cs k → FirstHolding b (c ∷ cs) k

-- A record is refused exactly with the first condition that holds of it.
abbrev pub RefusedExactly : Type 0
RefusedExactly = (b : List ℕ) (k : ℕ) → (verdict b ≡ refused k) ↔ FirstHolding b conditions k

-- The number of a rule.
unfoldable pub rule_number : Rule → ℕ
rule_number rule_1 = 1
rule_number rule_2 = 2
rule_number rule_3 = 3
rule_number rule_4 = 4
rule_number rule_5 = 5

-- One list of numbers comes before another: at the first place where they differ it is smaller.
pub data Before : List ℕ → List ℕ → Type 0 where
  smaller : {x y : ℕ} {xs ys : List ℕ} → x < y → Before (x ∷ xs) (y ∷ ys)
  equal : {x : ℕ} {xs ys : List ℕ} → Before xs ys → Before (x ∷ xs) (x ∷ ys)

-- A violation in the order in which violations are named: observer, rule, event, s, t, u. The levels of the observers rise in the list, so
-- that the order of the levels is that of the list.
abbrev pub in_order : Violation → List ℕ
in_order v = v.level ∷ v.rule ∷ v.event ∷ v.s ∷ v.t ∷ v.u ∷ []

-- v names a rule that is broken for an observer at an event and at states of the machine.
pub record Names (b : List ℕ) (a : Accepted b) (v : Violation) : Type 0 where
  pub the_observer : Below (observers b)
  pub the_rule : Rule
  pub s : State b
  pub t : State b
  pub u : State b
  pub as_named : in_order v ≡ observer b the_observer.0 ∷ rule_number the_rule ∷ v.event ∷ s.0 ∷ t.0 ∷ u.0 ∷ []
  pub is_broken : Broken (machine b a) (observation b the_observer.0) the_rule v.event s t u

-- A break is named exactly if it is one, and none is before it in that order.
abbrev pub BreaksExactly : Type 0
BreaksExactly =
    (b : List ℕ) (v : Violation)
    → (verdict b ≡ breaks v) ↔ ((a : Accepted b) × Names b a v × ((w : Violation) → Names b a w → Before (in_order w) (in_order v) → ⊥))

-- A passing part that is not a limited one hides its high inputs from each of its observers: generalized noninterference (demand 3, last
-- sentence; document 02, l).
abbrev pub PassingHides : Type 0
PassingHides =
    (b : List ℕ) (a : Accepted b) → (kind b ≡ limited_kind → ⊥) → verdict b ≡ pass
    → (o : ℕ) → o < observers b → Noninterfering (machine b a) (observation b o)

-- A record that passed in the earlier reading passes (document 02, i). Document 01 treats an internal event as an output of its level, so
-- that the earlier reading of b is the reading of b with each kind 2 made 1.
abbrev pub EarlierPasses : Type 0
EarlierPasses = (b : List ℕ) → verdict (as_outputs b) ≡ pass → verdict b ≡ pass

-- Check takes up the silent closures for observer o: the record passes, and o is the first; or it breaks rule 4 or 5 for o.
pub data TakesUp (b : List ℕ) (o : ℕ) : Type 0 where
  passing : verdict b ≡ pass → o ≡ 0 → TakesUp b o
  breaking : (v : Violation) → verdict b ≡ breaks v → (v.rule ≡ 4) ⊎ (v.rule ≡ 5) → v.level ≡ observer b o → TakesUp b o

-- The count is the number of the visits from all states, which are the states of their silent closures, exactly in those cases, and 0 in
-- all others (request f).
pub record Takes (b : List ℕ) : Type 0 where
  pub all_closures : (o : ℕ) → o < observers b → TakesUp b o → taken b ≡ total (states b) (λ s. length (visits b o s))
  pub no_closures : (taken b ≡ 0) ↔ ((o : ℕ) → o < observers b → TakesUp b o → ⊥)

abbrev pub TakenExactly : Type 0
TakenExactly = (b : List ℕ) → Takes b

-- Where it is not 0, it is at least n and at most n times n.
abbrev pub TakenRange : Type 0
TakenRange = (b : List ℕ) → (taken b ≡ 0) ⊎ ((states b ≤ taken b) × (taken b ≤ states b * states b))

-- The limit that Check tells is the largest number of states of one class of which no two have one fine class, where the record passes, and
-- 0 exactly where it does not. It is 1 for a passing record that is not a limited part (document 02, l).
pub record TellsLimit (b : List ℕ) : Type 0 where
  pub limited : verdict b ≡ pass → LimitOf (states b) (byte (column b 0)) (byte (fine_column b 0)) (told_limit b)
  pub nothing : (told_limit b ≡ 0) ↔ (verdict b ≡ pass → ⊥)
  pub unlimited : (kind b ≡ limited_kind → ⊥) → verdict b ≡ pass → told_limit b ≡ 1

abbrev pub LimitExactly : Type 0
LimitExactly = (b : List ℕ) → TellsLimit b
