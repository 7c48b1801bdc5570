-- What the answers of the code mean.
use Rattle.std.specs.Prelude.{Result, Ok, Err}
use Rattle.restrictive.specs.declared.answer.Pass.{Pass}
use Rattle.restrictive.specs.declared.answer.Failure.{Failure}
use Rattle.restrictive.specs.Verdict.{Verdict, refused}
use Rattle.restrictive.specs.Answers.{verdict_of}
use Rattle.explain.specs.declared.answer.NoRoom.{NoRoom}

unfoldable pub explaining_of : Result (Result Pass Failure) NoRoom → Verdict
explaining_of (Ok v) = verdict_of v
explaining_of (Err n) = refused 15
