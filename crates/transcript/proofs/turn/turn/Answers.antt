use Rattle.std.proofs.Common.{◌≡◌, refl, ap, arith}
use Rattle.words.proofs.LaidLaws.{laid_start}
use Rattle.script.specs.Operation as script
use Rattle.script.specs.Answers.{operation_of, stop_of, read_of}
use Rattle.transcript.specs.Turn.{turn}
use Rattle.transcript.proofs.turn.turn.Goals as goal

pub returns-in-Ok-None : goal.returns-in-Ok-None
unfolding turn read_of
returns-in-Ok-None c =
    let none = rw c.in-Ok-None.is at c.in-Ok-None.field-0-is in
    let told : read_of c.args.read ≡ script.ended = rw (c.in-Ok-None.is, none) refl in
    simp told record { value = refl; out_after = refl; shelf_after = refl }

pub returns-in-Ok-Some : goal.returns-in-Ok-Some
unfolding read_of
returns-in-Ok-Some c =
    let some = rw c.in-Ok-Some.is at c.in-Ok-Some.field-0-is in
    let told : read_of c.args.read ≡ operation_of c.in-Ok-Some.operation = rw (c.in-Ok-Some.is, some) refl in
    simp told c.done.ensures

pub returns-in-Err-Truncated : goal.returns-in-Err-Truncated
unfolding turn read_of stop_of
returns-in-Err-Truncated c =
    let laid = c.lay.ensures in
    let line = laid_start laid (omega (arith, laid.behind)) in
    let told : read_of c.args.read ≡ script.truncated =
    rw c.in-Err-Truncated.is (ap stop_of (rw c.in-Err-Truncated.is at c.in-Err-Truncated.field-0-is)) in
    simp told
    record { value = line.0; out_after = line.1; shelf_after = refl }

pub returns-in-Err-Unknown : goal.returns-in-Err-Unknown
unfolding turn read_of stop_of
returns-in-Err-Unknown c =
    let laid = c.lay-in-Err-Unknown.ensures in
    let line = laid_start laid (omega (arith, laid.behind)) in
    let told : read_of c.args.read ≡ script.unknown =
    rw c.in-Err-Unknown.is (ap stop_of (rw c.in-Err-Unknown.is at c.in-Err-Unknown.field-0-is)) in
    simp told
    record { value = line.0; out_after = line.1; shelf_after = refl }
