-- `lez::lez_check_loop` meets its contract.
use Rattle.lez.proofs.lez_check_loop.Goals as goal

pub returns : goal.returns
returns c = rw c.hand_over.ensures at c.check_loop.ensures
