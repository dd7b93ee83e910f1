-- `lez::lez_best` meets its contract.
use Rattle.lez.proofs.lez_best.Goals as goal

pub returns : goal.returns
returns c = rw c.hand_over.ensures at c.best.ensures
