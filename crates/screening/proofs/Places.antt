-- The place of an event of an accepted record and its identifier determine each other.
use mathlib.Core.Path.{refl}
use Rattle.part.proofs.Places.{place-stands, rising_place}
use Rattle.screening.specs.Theorems.{Places}
use Rattle.screening.proofs.Ranges.{ranges}

pub places : Places
places b a = record {
  found = λ i h. rising_place b _ (ranges b a).identifiers_rise i h refl;
  stands = place-stands b;
}
