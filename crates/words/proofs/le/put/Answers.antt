use Rattle.std.proofs.Common.{◌≡◌, ◌∙◌, ◌+◌, ◌-◌, arith}
use Rattle.words.specs.LittleEndian.{digits}
use Rattle.words.proofs.LaidLaws.{over-replaced}
use Rattle.words.proofs.LittleEndian.{digits-front, length_digits}
use Rattle.words.proofs.le.put.Goals as goal

pub returns : goal.returns
returns g c =
    let a = c.args in
    let n = g.row.N in
    let size = length_digits n a.v in
    let front : c.copy_from_slice.new.self ≡ digits n a.v =
    c.copy_from_slice.ensures.after ∙ rw c.to_le_bytes.ensures (digits-front n a.v c.requires.width) in
    rw front (over-replaced a.out.now a.at (a.at + n - a.at) (digits n a.v) (omega arith) (omega (arith, c.requires.room)))
