use Rattle.std.proofs.Common.{◌≡◌, false}
use Rattle.bounded.specs.Search.{any}
use Rattle.screening.specs.Rejections.{skips_at}
use Rattle.part.specs.Record.{classes_below}
use Rattle.screening.proofs.rejection.unnumbered.Given as goal

abbrev pub invariant-loop-c : goal.invariant-loop-c
invariant-loop-c l =
    (l.count ≡ classes_below l.column l.c-index) × (any l.c-index (skips_at l.column) ≡ false)
