-- Levels that tell the order from its wrong readings: an order of the bytes as numbers, of the ranks alone, of the compartments alone,
-- and incomparable taken for low; and mislabelled levels from theirs: rank 1 taken for rank 0, one compartment looked at, no compartment
-- needed.
use Rattle.std.specs.Prelude.{ℕ, Bool, not, ◌&&◌, T}
use Rattle.bounded.specs.Search.{any, all}
use Rattle.words.specs.Sets.{bit}
use Rattle.level.specs.Level.{rank, at_or_below, low, mislabelled}

abbrev low_for : ℕ → ℕ → Bool
low_for observer level = low observer level

-- low: equal; a lower rank with the same compartments; a lower rank with fewer. High: a higher rank; a compartment that the observer
-- lacks, at the same rank and at a lower one; a higher rank with fewer compartments.
pub levels : T
    (low_for 0x81 0x81
    && low_for 0x81 0x41
    && low_for 0xC3 0x42
    && not (low_for 0x41 0x81)
    && not (low_for 0x81 0x83)
    && not (low_for 0x80 0x41)
    && not (low_for 0x7F 0x80))
unfolding low at_or_below rank all bit
levels = tt

-- Mislabelled: rank 0 with the first compartment, with the last, with all. Not: rank 0 without one, rank 1 without and with one, rank 3 with all.
pub labels : T
    (mislabelled 0x01
    && mislabelled 0x20
    && mislabelled 0x3F
    && not (mislabelled 0x00)
    && not (mislabelled 0x40)
    && not (mislabelled 0x41)
    && not (mislabelled 0xFF))
unfolding mislabelled rank any bit
labels = tt
