-- The verdict that a line tells, by the numbers that the code has of it.
use Rattle.screening.specs.Answers.{number_of}
use Rattle.restrictive.specs.Verdict.{Verdict, Violation, pass, refused, breaks}
use Rattle.report.specs.declared.told.Numbers.{Numbers}
use Rattle.report.specs.declared.told.Told.{Told}
use Rattle.report.specs.declared.told.Told.TheVariants as told

-- A break by its numbers, whatever they are.
unfoldable pub numbers_of : Numbers → Violation
numbers_of n = record { level = n.level; rule = n.rule; event = n.event; s = n.s; t = n.t; u = n.u }

-- A pass, a refusal by its number, or a break.
unfoldable pub told_of : Told → Verdict
told_of told.Pass = pass
told_of (told.Refused r) = refused (number_of r)
told_of (told.Break n) = breaks (numbers_of n)
