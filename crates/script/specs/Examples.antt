-- Some operations, computed.
use Rattle.std.specs.Prelude.{◌≡◌, refl, [], ◌∷◌}
use Rattle.words.specs.LittleEndian.{number}
use Rattle.script.specs.Operation.{clear, load, hookup, count, part, ended, truncated, unknown}
use Rattle.script.specs.Operation.{load_of, call, operation}

-- Each call, with bytes of the next operation behind it.
pub clear_is : operation (0 ∷ 3 ∷ []) ≡ clear
unfolding operation call
clear_is = refl

pub load_is : operation (1 ∷ 2 ∷ 0 ∷ 0 ∷ 0 ∷ 7 ∷ 8 ∷ 3 ∷ []) ≡ load (7 ∷ 8 ∷ [])
unfolding operation call load_of number
load_is = refl

pub hookup_is : operation (2 ∷ 1 ∷ 0 ∷ 0 ∷ 0 ∷ 0 ∷ 2 ∷ 0 ∷ 0 ∷ 3 ∷ []) ≡ hookup 1 512
unfolding operation call number
hookup_is = refl

pub count_is : operation (3 ∷ []) ≡ count
unfolding operation call
count_is = refl

pub part_is : operation (4 ∷ 9 ∷ 0 ∷ 0 ∷ 0 ∷ []) ≡ part 9
unfolding operation call number
part_is = refl

-- No byte; a number cut off; a record cut off; a byte above 4, also as the last one.
pub ended_is : operation [] ≡ ended
unfolding operation
ended_is = refl

pub number_cut_off : operation (4 ∷ 9 ∷ 0 ∷ 0 ∷ []) ≡ truncated
unfolding operation
number_cut_off = refl

pub record_cut_off : operation (1 ∷ 3 ∷ 0 ∷ 0 ∷ 0 ∷ 7 ∷ 8 ∷ []) ≡ truncated
unfolding operation call load_of number
record_cut_off = refl

pub unknown_is : operation (5 ∷ []) ≡ unknown
unfolding operation
unknown_is = refl
