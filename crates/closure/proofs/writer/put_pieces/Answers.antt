use Rattle.std.proofs.Common.{◌+◌, ◌*◌, ◌≤◌, ◌<◌, ◌≡◌, ap, ◌∙◌, mul-le-mul_right, arith, length}
use Rattle.words.proofs.LaidLaws.{length_over, nothing_laid}
use Rattle.part.specs.Record.{observers}
use Rattle.closure.specs.Closures.{pieces}
use Rattle.closure.proofs.PieceBytes.{blocks_turn, length-pieces}
use Rattle.closure.proofs.writer.put_pieces.Goals as goal
use Rattle.closure.proofs.writer.put_pieces.Goals.{In-loop-o}

-- the block of the next observer has its place
room : (c : In-loop-o) →
    let size = c.block_size-size.result in
    (c.loop-o.o < observers c.args.accepted.record.bytes.now)
    × (c.loop-o.o * size + size ≤ length c.args.out.now)
room c =
    let long = c.block_size-size.ensures.by_index in
    let there : c.loop-o.o < observers c.args.accepted.record.bytes.now = omega arith in
    (there, omega (arith, length-pieces _ c.args.accepted.accepted _ long, mul-le-mul_right c.block_size-size.result there))

pub loop-o-init : goal.loop-o-init
loop-o-init c = nothing_laid _ _ _

pub overflow_mul-o : goal.overflow_mul-o
overflow_mul-o c = omega (arith, room (goal.at.overflow_mul-o c).In-loop-o)

pub put_block-requires-clause-has_room : goal.put_block-requires-clause-has_room
put_block-requires-clause-has_room c =
    let (there, fits) = room (goal.at.put_block-requires-clause-has_room c).In-loop-o in
    let long = c.block_size-size.ensures.by_index c.loop-o.o in
    omega (arith, ap length c.loop-o.invariant ∙ length_over _ _ _)

pub loop-o-preserved : goal.loop-o-preserved
loop-o-preserved c =
    blocks_turn _ _ c.loop-o.o c.block_size-size.result c.block_size-size.ensures.by_index c.loop-o.invariant
    c.put_block.ensures

pub returns : goal.returns
unfolding pieces
returns c =
    let all : c.loop-o.o ≡ observers c.args.accepted.record.bytes.now = omega arith in
    rw (← all) c.loop-o.invariant
