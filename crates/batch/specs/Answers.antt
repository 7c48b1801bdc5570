-- What the answers of the code mean: no refusal, or one by its number.
use Rattle.std.specs.Prelude.{ℕ, Result, Ok, Err}
use Rattle.std.proofs.Math.Option.{Option, none, some}
use Rattle.batch.specs.declared.answer.NotRun.{NotRun}
use Rattle.batch.specs.declared.answer.NotRun.TheVariants.{Malformed, TooFew}

abbrev pub number_of : NotRun → ℕ
number_of Malformed = 99
number_of TooFew = 15

abbrev pub refusal_of : Result (Unit {0}) NotRun → Option ℕ
refusal_of (Ok done) = none
refusal_of (Err why) = some (number_of why)
