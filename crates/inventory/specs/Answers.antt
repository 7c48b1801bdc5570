-- What the answers of the code mean: no refusal, or one by its number.
use Rattle.std.specs.Prelude.{ℕ, Result, Ok, Err}
use Rattle.std.proofs.Math.Option.{Option, none, some}
use Rattle.inventory.specs.declared.answer.Untold.{Untold}
use Rattle.inventory.specs.declared.answer.Untold.TheVariants.{NoEnd, NoPart, NoRoom}

abbrev pub number_of : Untold → ℕ
number_of NoEnd = 12
number_of NoPart = 13
number_of NoRoom = 15

abbrev pub refusal_of : Result (Unit {0}) Untold → Option ℕ
refusal_of (Ok done) = none
refusal_of (Err untold) = some (number_of untold)
