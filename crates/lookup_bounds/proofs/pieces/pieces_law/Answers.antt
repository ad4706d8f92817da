use Rattle.lookup_bounds.proofs.PiecesMade.{have_pieces}
use Rattle.lookup_bounds.proofs.pieces.pieces_law.Goals as goal

pub returns : goal.returns
returns c = have_pieces
