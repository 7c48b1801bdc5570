use Rattle.std.proofs.Common.{◌≡◌}
use Rattle.bounded.specs.Search.{each}
use Rattle.words.specs.Laid.{over}
use Rattle.relations.specs.Sets.{in_rows}
use Rattle.closure.specs.Pieces.{piece_by}
use Rattle.closure.proofs.writer.put_block.Given as goal

-- The pieces of the states below s are laid.
abbrev pub invariant-loop-s : goal.invariant-loop-s
invariant-loop-s l =
    l.out ≡ over l.initial.out l.at (each l.s (piece_by (in_rows l.rows) 64))
