use Rattle.std.proofs.Common.{◌≡◌}
use Rattle.bounded.specs.Search.{each}
use Rattle.words.specs.Laid.{over}
use Rattle.closure.specs.Closures.{block}
use Rattle.closure.proofs.writer.put_pieces.Given as goal

-- The blocks of the observers below o are laid.
abbrev pub invariant-loop-o : goal.invariant-loop-o
invariant-loop-o l = l.out ≡ over l.initial.out 0 (each l.o (block l.accepted.record.bytes.now))
