use Rattle.std.proofs.Common.{refl, arith, lt-ltb, le-ltb, length}
use Rattle.explain.specs.Answers.{explaining_of}
use Rattle.explain.proofs.call.tell.Goals as goal

pub returns-then-out-lt-BYTES-clause-result_value : goal.returns-then-out-lt-BYTES-clause-result_value
unfolding explaining_of
returns-then-out-lt-BYTES-clause-result_value c =
    let short = lt-ltb (length c.args.out.now) 64 (omega (arith, c.if-out-lt-BYTES.true)) in
    rw short refl

pub returns-clause-result_value : goal.returns-clause-result_value
unfolding explaining_of
returns-clause-result_value c =
    let room = le-ltb (length c.args.out.now) 64 (omega (arith, c.if-out-lt-BYTES.false)) in
    rw room refl
