-- What the answers of the code mean: no refusal, or one by its number.
use Rattle.std.specs.Prelude.{ℕ, Result, Ok, Err}
use Rattle.std.proofs.Math.Option.{Option, none, some}
use Rattle.screening.specs.Answers.{number_of}
use Rattle.closure.specs.declared.answer.Unlisted.{Unlisted}
use Rattle.closure.specs.declared.answer.Unlisted.TheVariants.{Refused, NoRoom}

unfoldable pub refusal_of : Result (Unit {0}) Unlisted → Option ℕ
refusal_of (Ok x) = none
refusal_of (Err (Refused r)) = some (number_of r)
refusal_of (Err NoRoom) = some 15
