-- The five rules of restrictiveness (document 01, "The five rules"; source 001), with internal events unseen (document 02, i) and with
-- classes and fine classes (document 02, l).
use Rattle.std.specs.Prelude.{ℕ, ◌≡◌}
use Rattle.machine.specs.Machine.{Machine, Observation}
use Rattle.machine.specs.Roles.{low_input, high_input, low_output, silent, role, IsInput}
use Rattle.machine.specs.Silent.{Silent}

-- The rules by their numbers.
pub data Rule : Type 0 where
  rule_1 rule_2 rule_3 rule_4 rule_5 : Rule

module _ {S : Type 0} (M : Machine S) (O : Observation S) where
  -- Silent steps, the event e and silent steps lead from u to v.
  pub record Around (e : ℕ) (u v : S) : Type 0 where
    pub from : S
    pub to : S
    pub before : Silent M O u from
    pub step : M.step e from to
    pub after : Silent M O to v

  -- Where a rule asks something of the machine at e, s, t, u. Rule 1: at every input. Rule 2: where a high input leads from s to t. Rule 3:
  -- where a low input leads from s to t, and u has the class of s. The others: where the event leads from s to t, and u has the fine class
  -- of s; a silent event (a high output or an internal event) for 4, a low output for 5.
  abbrev pub Asks : Rule → ℕ → S → S → S → Type 0
  Asks rule_1 e s t u = IsInput (role M O e)
  Asks rule_2 e s t u = (role M O e ≡ high_input) × M.step e s t
  Asks rule_3 e s t u = (role M O e ≡ low_input) × M.step e s t × (O.class u ≡ O.class s)
  Asks rule_4 e s t u = (role M O e ≡ silent) × M.step e s t × (O.fine u ≡ O.fine s)
  Asks rule_5 e s t u = (role M O e ≡ low_output) × M.step e s t × (O.fine u ≡ O.fine s)

  -- What it asks. Rule 1: a step from s. Rule 2: that t has the class of s. The others: that u can answer with a state of t's class, by
  -- the event (3), by silent steps (4), by silent steps, the event and silent steps (5).
  abbrev pub Answers : Rule → ℕ → S → S → S → Type 0
  Answers rule_1 e s t u = (v : S) × M.step e s v
  Answers rule_2 e s t u = O.class t ≡ O.class s
  Answers rule_3 e s t u = (v : S) × M.step e u v × (O.class v ≡ O.class t)
  Answers rule_4 e s t u = (v : S) × Silent M O u v × (O.class v ≡ O.class t)
  Answers rule_5 e s t u = (v : S) × Around e u v × (O.class v ≡ O.class t)

  -- The machine is restrictive: every rule holds for all events and all states, reached from the start or not.
  abbrev pub Restrictive : Type 0
  Restrictive = (r : Rule) (e : ℕ) (s t u : S) → Asks r e s t u → Answers r e s t u

  -- The rule is broken at e, s, t, u (document 01: a break).
  abbrev pub Broken : Rule → ℕ → S → S → S → Type 0
  Broken r e s t u = Asks r e s t u × (Answers r e s t u → ⊥)
