-- The answer that a line tells, by the numbers that the code has of it.
use Rattle.report.specs.Told.{numbers_of}
use Rattle.store.specs.Answer.{Answer, gives, refused, clash, breaks}
use Rattle.transcript.specs.declared.told.Told.{Told}
use Rattle.transcript.specs.declared.told.Told.TheVariants as told

-- A number, a refusal by its number, refusal 10 with its identifier, or a break.
unfoldable pub told_of : Told → Answer
told_of (told.Gives n) = gives n
told_of (told.Refused k) = refused k
told_of (told.Clash e) = clash e
told_of (told.Breaks n) = breaks (numbers_of n)
