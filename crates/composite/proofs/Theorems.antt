-- The hookup theorem over bytes.
use native.Mathlib.Omega.{arith}
use Rattle.machine.proofs.Hookup.{hookup_restrictive}
use Rattle.screening.proofs.Ranges.{observations_refined}
use Rattle.restrictive.proofs.Theorems.{passes-exactly}
use Rattle.composite.specs.Joined.{joined}
use Rattle.composite.specs.Theorems.{JoinedPasses}
use Rattle.composite.proofs.Joinable.{joins-exactly}
use Rattle.composite.proofs.JoinedProper.{joined-accepted}
use Rattle.composite.proofs.JoinedMachine.{joined-observers, joined-hookup}

pub joined-passes : JoinedPasses
joined-passes a b h k u v none_there =
    let (p, R) = (passes-exactly a).0 u in
    let (q, S) = (passes-exactly b).0 v in
    let j = (joins-exactly a b p q).0 none_there in
    let r = joined-accepted a b h k p q j in
    let (pairs, numbered, hookup, partition, its-kind) = joined-hookup a b h k p q j r in
    (passes-exactly (joined a b)).1 (
      r,
      λ o l.
          let same = joined-observers a b h k p q j in
          hookup_restrictive _ _ _ _ _ _ _ _ _ pairs hookup (partition o l)
          (observations_refined a p o (omega arith)) (observations_refined b q o (omega (arith, j.joinable.as_many)))
          (R o (omega arith)) (S o (omega (arith, j.joinable.as_many))),
    )
