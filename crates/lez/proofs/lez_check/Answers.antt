-- `lez::lez_check` meets its contract.
use Rattle.lez.proofs.lez_check.Goals as goal

pub returns : goal.returns
returns c = rw c.hand_over.ensures at c.check.ensures
