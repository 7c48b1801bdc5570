-- The numbers of the documents for the answers of the code.
use Rattle.std.specs.Prelude.{ℕ, Result, Ok, Err}
use Rattle.std.proofs.Math.Option.{Option, none, some}
use Rattle.screening.specs.declared.answer.Rejection.{Rejection}
use Rattle.screening.specs.declared.answer.Rejection.TheVariants.{TooShort, WrongLength, WrongKind, OutOfRange, WrongSize, Mislisted, Misnumbered, Misrefined, Misordered, Mislabelled, StrayBit}

-- The number of a rejection (document 01, "Refusals out of the input"; document 02, d, k and l).
abbrev pub number_of : Rejection → ℕ
number_of TooShort = 1
number_of WrongLength = 2
number_of WrongKind = 3
number_of OutOfRange = 4
number_of WrongSize = 5
number_of Mislisted = 20
number_of Misnumbered = 6
number_of Misrefined = 21
number_of Misordered = 7
number_of Mislabelled = 16
number_of StrayBit = 8

-- What screening a record says: no rejection, or one by its number.
unfoldable pub rejection_of : {A : Type 0} → Result A Rejection → Option ℕ
rejection_of (Ok a) = none
rejection_of (Err r) = some (number_of r)
