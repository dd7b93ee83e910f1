-- `lez::lez_period` meets its contract.
use Rattle.lez.proofs.lez_period.Goals as goal

pub returns : goal.returns
returns c = rw c.hand_over.ensures at c.period.ensures
