-- The answer says the outcome.
use Rattle.moves.proofs.move_by.Goals as goal

pub returns : goal.returns
returns c = rw c.of.ensures c.moved_by.ensures
