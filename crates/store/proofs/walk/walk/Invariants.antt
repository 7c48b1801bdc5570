use Rattle.std.proofs.Common.{◌≡◌, ◌+◌, length}
use mathlib.Core.List.{flatten}
use Rattle.store.specs.Leading.{leading}
use Rattle.store.proofs.walk.walk.Given as goal

-- The records that are left make up for those that are counted.
abbrev pub invariant-loop-record : goal.invariant-loop-record
invariant-loop-record l =
    (l.end.records + length (leading l.record-iterator.rest.now) ≡ length (leading l.s))
    × (l.end.place + length (flatten (leading l.record-iterator.rest.now)) ≡ length (flatten (leading l.s)))
