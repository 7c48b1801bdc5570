use Rattle.std.proofs.Common.{◌≡◌, refl, arith}
use Rattle.words.proofs.LaidLaws.{nothing_laid, piece-turn}
use Rattle.words.proofs.LittleEndian.{length_digits}
use Rattle.words.proofs.le.put_words.Goals as goal

pub loop-i-init : goal.loop-i-init
loop-i-init c = nothing_laid _ _ _

pub loop-i-preserved : goal.loop-i-preserved
loop-i-preserved c =
    piece-turn _ c.args.at c.loop-i.i 8 _ (λ k. length_digits 8 _) c.loop-i.invariant (omega arith) refl c.put.ensures

pub returns : goal.returns
returns c =
    let all : c.loop-i.i ≡ 8 = omega arith in
    rw all at c.loop-i.invariant
