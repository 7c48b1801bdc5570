use Rattle.std.proofs.Common.{refl, lt-ltb, le-ltb, arith}
use Rattle.bounded.specs.Search.{any}
use Rattle.bounded.proofs.Search.{any-more, scan_hit, scan_done}
use Rattle.screening.specs.Rejections.{skips_at, unnumbered}
use Rattle.words.specs.LittleEndian.{byte}
use Rattle.part.specs.Record.{classes_below}
use Rattle.part.proofs.Fields.{classes_next}
use Rattle.screening.proofs.rejection.unnumbered.Goals as goal

pub loop-c-init : goal.loop-c-init
unfolding any classes_below
loop-c-init c = (refl, refl)

pub returns-then-count-c : goal.returns-then-count-c
unfolding unnumbered skips_at
returns-then-count-c c =
    let column = c.args.column.now in
    let s = c.loop-c.c-index in
    scan_hit (skips_at column) _ s (omega arith) (lt-ltb (classes_below column s) (byte column s) (omega arith))

pub loop-c-preserved : goal.loop-c-preserved
unfolding skips_at
loop-c-preserved c =
    let column = c.args.column.now in
    let s = c.loop-c.c-index in
    let next = classes_next column s in (
      omega arith,
      any-more (skips_at column) s c.loop-c.invariant.1
          (le-ltb (classes_below column s) (byte column s) (omega arith)),
    )

pub returns : goal.returns
unfolding unnumbered
returns c = scan_done _ _ _ (omega arith) c.loop-c.invariant.1
