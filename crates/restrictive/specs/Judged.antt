-- The verdict, the count and the limit as they compute, and a test of two verdicts, for tables of examples.
use Rattle.std.specs.Prelude.{ℕ, Bool, true, false, ◌&&◌, List, eqb}
use Rattle.bounded.specs.Search.{any, all, first, or_else, when, count, total, largest}
use Rattle.bounded.specs.Paths.{in_steps, reaches}
use Rattle.machine.specs.Roles.{at_level, role_of}
use Rattle.words.specs.Sets.{bit}
use Rattle.level.specs.Level.{rank, at_or_below, low}
use Rattle.part.specs.Record.{observer}
use Rattle.screening.specs.Computed.{rejected_with}
use Rattle.part.specs.Events.{kind_of}
use Rattle.partition.specs.Classes.{same_class, is_first, fine_classes}
use Rattle.partition.specs.Classes as partition
use Rattle.relations.specs.Relations.{role_at, leads, step_by, silent_step, reach_for, closure_sizes, rule_at}
use Rattle.restrictive.specs.Tests.{around, asks, answers, broken}
use Rattle.restrictive.specs.Verdict.{Violation, Verdict, pass, refused, breaks, violation_at, state_violation, event_violation, rule_violation, violation_for, first_violation, by_rules, after_rejection, verdict, taken_by, taken, limit, limit_by, told_limit}

-- The verdict, computed.
unfoldable pub judged : List ℕ → Verdict
unfolding rejected_with verdict after_rejection by_rules first_violation violation_for rule_violation event_violation state_violation violation_at when rule_at broken answers asks around reach_for reaches in_steps silent_step step_by same_class leads role_at role_of at_level kind_of observer all first or_else bit low at_or_below rank
judged b = verdict b

-- The count, computed.
unfoldable pub counted : List ℕ → ℕ
unfolding judged taken taken_by closure_sizes total count
counted b = taken b

-- The limit that is told, computed.
unfoldable pub told : List ℕ → ℕ
unfolding judged told_limit limit_by limit partition.limit fine_classes is_first largest count any
told b = told_limit b

abbrev pub same_violation : Violation → Violation → Bool
same_violation v w = eqb v.level w.level && eqb v.rule w.rule && eqb v.event w.event && eqb v.s w.s && eqb v.t w.t && eqb v.u w.u

abbrev pub same : Verdict → Verdict → Bool
same pass pass = true
same pass (refused k) = false
same pass (breaks v) = false
same (refused j) pass = false
same (refused j) (refused k) = eqb j k
same (refused j) (breaks v) = false
same (breaks w) pass = false
same (breaks w) (refused k) = false
same (breaks w) (breaks v) = same_violation w v

-- A break by its values: for an observer of some level, and for one of level 0.
abbrev pub broken_for : ℕ → ℕ → ℕ → ℕ → ℕ → ℕ → Verdict
broken_for l r e s t u = breaks (record { level = l; rule = r; event = e; s = s; t = t; u = u })

abbrev pub broken_at : ℕ → ℕ → ℕ → ℕ → ℕ → Verdict
broken_at = broken_for 0
