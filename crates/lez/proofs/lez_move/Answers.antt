-- `lez::lez_move` meets its contract.
use Rattle.lez.proofs.lez_move.Goals as goal

pub returns : goal.returns
returns c = rw c.hand_over.ensures at c.move_by.ensures
