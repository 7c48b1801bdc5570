use Rattle.std.proofs.Common.{length, ◌-◌, take}
use Rattle.std.specs.Io.KnownBytes.{Consumes}
use Rattle.input.specs.Input.{ChangesFirst}
use Rattle.input.proofs.read_all.Given as goal

-- The n bytes that were read so far stand at the start, and the stream has lost them and no others.
abbrev pub invariant-loop-n : goal.invariant-loop-n
invariant-loop-n g l = record {
  brought : ChangesFirst l.n l.fn.bytes l.bytes;
  next : Consumes (g.R.Read.remaining l.fn.reader) (g.R.Read.remaining l.reader) (take l.n l.bytes);
}

abbrev pub decreases-loop-n : goal.decreases-loop-n
decreases-loop-n g l = length l.initial.bytes - l.n
