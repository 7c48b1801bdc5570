-- The verdict of Check on a record (document 01, "The five rules" and "Order"; document 02, k): the rejections, then the first violation by
-- observer, in the order of the list, then by rule, event, s, t, u, each ascending. How many states it takes up (document 02, f), and the limit
-- (document 02, l).
use Rattle.std.specs.Prelude.{ℕ, suc, ◌||◌, cond, List, eqb}
use Rattle.std.proofs.Math.Option.{Option, none, some}
use Rattle.bounded.specs.Search.{first, when}
use Rattle.part.specs.Record.{observers, observer, states, events, identifier, column, fine_column, Observer, observer_of}
use Rattle.screening.specs.Rejections.{rejection}
use Rattle.words.specs.LittleEndian.{byte}
use Rattle.partition.specs.Classes as partition
use Rattle.relations.specs.Relations.{rule_at, closure_sizes}
use Rattle.restrictive.specs.Tests.{broken}

-- A violation (document 01: a break): the level of the observer concerned, rule, identifier, s, t, u.
pub record Violation : Type 0 where
  pub level : ℕ
  pub rule : ℕ
  pub event : ℕ
  pub s : ℕ
  pub t : ℕ
  pub u : ℕ

pub data Verdict : Type 0 where
  pass : Verdict
  refused : ℕ → Verdict
  breaks : Violation → Verdict

-- The violation of a rule for an observer by the event at place i at s, t, u, where it is one.
unfoldable pub violation_at : List ℕ → Observer → ℕ → ℕ → ℕ → ℕ → ℕ → Option Violation
violation_at b o k i s t u =
    when (broken b o (rule_at k) i s t u) (record { level = o.level; rule = suc k; event = identifier b i; s = s; t = t; u = u })

-- The first at a state s, of an event, of a rule, for an observer, of the record.
unfoldable pub state_violation : List ℕ → Observer → ℕ → ℕ → ℕ → Option Violation
state_violation b o k i s = first (states b) (λ t. first (states b) (violation_at b o k i s t))

unfoldable pub event_violation : List ℕ → Observer → ℕ → ℕ → Option Violation
event_violation b o k i = first (states b) (state_violation b o k i)

unfoldable pub rule_violation : List ℕ → Observer → ℕ → Option Violation
rule_violation b o k = first (events b) (event_violation b o k)

unfoldable pub violation_for : List ℕ → Observer → Option Violation
violation_for b o = first 5 (rule_violation b o)

unfoldable pub first_violation : List ℕ → Option Violation
first_violation b = first (observers b) (λ o. violation_for b (observer_of b o))

-- The verdict by the rules alone.
unfoldable pub by_rules : Option Violation → Verdict
by_rules none = pass
by_rules (some v) = breaks v

unfoldable pub after_rejection : Option ℕ → List ℕ → Verdict
after_rejection none b = by_rules (first_violation b)
after_rejection (some k) b = refused k

unfoldable pub verdict : List ℕ → Verdict
verdict b = after_rejection (rejection b) b

-- How many states Check takes up: the sizes of the silent closures of all states together, for the first observer where the record passes,
-- and for the observer of a break of rule 4 or 5. Otherwise none.
unfoldable pub taken_by : List ℕ → Verdict → ℕ
taken_by b pass = closure_sizes b (observer b 0)
taken_by b (refused k) = 0
taken_by b (breaks v) = cond (eqb v.rule 4 || eqb v.rule 5) (closure_sizes b v.level) 0

unfoldable pub taken : List ℕ → ℕ
taken b = taken_by b (verdict b)

-- The limit of a record: the largest number of fine classes in one class. For other kinds than 3 it is 1; kind 3 has one observer.
unfoldable pub limit : List ℕ → ℕ
limit b = partition.limit (states b) (byte (column b 0)) (byte (fine_column b 0))

-- What Check tells of it: the limit where the record passes, and otherwise 0.
unfoldable pub limit_by : List ℕ → Verdict → ℕ
limit_by b pass = limit b
limit_by b (refused k) = 0
limit_by b (breaks v) = 0

unfoldable pub told_limit : List ℕ → ℕ
told_limit b = limit_by b (verdict b)
