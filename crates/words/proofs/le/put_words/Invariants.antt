use Rattle.std.proofs.Common.{◌≡◌, get_or}
use Rattle.bounded.specs.Search.{each}
use Rattle.words.specs.Laid.{over}
use Rattle.words.specs.LittleEndian.{digits}
use Rattle.words.proofs.le.put_words.Given as goal

-- The numbers at the places below i are laid.
abbrev pub invariant-loop-i : goal.invariant-loop-i
invariant-loop-i l = l.out ≡ over l.initial.out l.at (each l.i (λ k. digits 8 (get_or l.numbers k 0)))
