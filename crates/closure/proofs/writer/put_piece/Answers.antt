use Rattle.closure.proofs.PieceBytes.{piece_laid}
use Rattle.closure.proofs.writer.put_piece.Goals as goal

pub returns : goal.returns
returns c =
    piece_laid _ _ _ _ c.closure_of-closure.ensures c.put.ensures c.lay.ensures.text
    c.lay-2.ensures.text
