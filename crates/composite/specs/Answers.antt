-- What the answers of the code mean: the documents' numbers and values for each case.
use Rattle.std.specs.Prelude.{ℕ, Result, Ok, Err}
use Rattle.restrictive.specs.Answers as record-answers
use Rattle.composite.specs.declared.answer.Obstacle.{Obstacle}
use Rattle.composite.specs.declared.answer.Obstacle.TheVariants.{ObserversDiffer, Clash, TooLarge}
use Rattle.composite.specs.declared.answer.Side.{Side}
use Rattle.composite.specs.declared.answer.Side.TheVariants.{First, Second}
use Rattle.composite.specs.declared.answer.Unjoined.{Unjoined}
use Rattle.composite.specs.declared.answer.Unjoined.TheVariants.{Unfit, Stopped, NoRoom}
use Rattle.composite.specs.Joining as plain

-- 9, 10 with its identifier, 11.
unfoldable pub obstacle_of : Obstacle → plain.Obstacle
obstacle_of ObserversDiffer = plain.refusal 9
obstacle_of (Clash e) = plain.clash e
obstacle_of TooLarge = plain.refusal 11

unfoldable pub side_of : Side → plain.Side
side_of First = plain.first_record
side_of Second = plain.second_record

-- The joined record's length; a record's own refusal or break with its side; an obstacle; 15.
unfoldable pub joining_of : Result ℕ Unjoined → plain.Joining
joining_of (Ok n) = plain.length_is n
joining_of (Err (Unfit side f)) = plain.unfit (side_of side) (record-answers.failure_of f)
joining_of (Err (Stopped o)) = plain.stopped (obstacle_of o)
joining_of (Err NoRoom) = plain.stopped (plain.refusal 15)
