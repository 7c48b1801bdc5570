use Rattle.std.proofs.Common.{◌≡◌, length, take, drop}
use mathlib.Core.List.{flatten}
use Rattle.store.specs.Leading.{leading}
use Rattle.store.proofs.record.extent.Given as goal

-- So many records are passed, and the place is behind them.
abbrev pub invariant-loop : goal.invariant-loop
invariant-loop l =
    (leading l.records.rest.now ≡ drop l.counter (leading l.s))
    × (l.place ≡ length (flatten (take l.counter (leading l.s))))
