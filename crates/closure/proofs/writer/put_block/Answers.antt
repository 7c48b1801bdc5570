use Rattle.std.proofs.Common.{◌+◌, ◌*◌, ◌≤◌, ◌<◌, ◌≡◌, refl, ap, ◌∙◌, arith, length}
use Rattle.words.specs.Laid.{over}
use Rattle.words.proofs.LaidLaws.{length_over, nothing_laid, piece-turn}
use Rattle.part.specs.Record.{states}
use Rattle.closure.proofs.PieceBytes.{length-piece_by, same_block, length-block}
use Rattle.closure.proofs.writer.put_block.Goals as goal
use Rattle.closure.proofs.writer.put_block.Goals.{In-loop-s}

-- the piece of the next state has its place
room : (c : In-loop-s) →
    (c.loop-s.s < 64) × (c.args.at + c.loop-s.s * 136 + 136 ≤ length c.args.out.now)
room c =
    let next : c.loop-s.s + 1 ≤ states c.args.accepted.record.bytes.now = omega (arith, c.loop-s-test.true) in
    (omega (arith, c.args.accepted.record.framed.few.most_states), omega (arith, length-block _ c.args.accepted.accepted c.args.o))

pub loop-s-init : goal.loop-s-init
loop-s-init c = nothing_laid _ _ _

pub put_piece-requires-clause-s_bound : goal.put_piece-requires-clause-s_bound
put_piece-requires-clause-s_bound c =
    let (few, fits) = room (goal.at.put_piece-requires-clause-s_bound c).In-loop-s in
    omega arith

pub put_piece-requires-clause-has_room : goal.put_piece-requires-clause-has_room
put_piece-requires-clause-has_room c =
    let (few, fits) = room (goal.at.put_piece-requires-clause-has_room c).In-loop-s in
    omega (arith, ap length c.loop-s.invariant ∙ length_over _ _ _)

pub loop-s-preserved : goal.loop-s-preserved
loop-s-preserved c =
    piece-turn _ _ c.loop-s.s 136 _ (λ u. length-piece_by _ 64 u (omega arith)) c.loop-s.invariant refl refl
    c.put_piece.ensures

pub returns : goal.returns
returns c =
    let all : c.loop-s.s ≡ states c.args.accepted.record.bytes.now = omega arith in
    let silent = rw c.observer.ensures at c.of-roles.ensures.silent_events in
    c.loop-s.invariant ∙ ap (over _ _) (rw all (same_block _ c.args.accepted.accepted _ _ silent _ c.step_rows-rows.ensures.words))
