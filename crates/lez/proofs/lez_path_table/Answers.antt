-- `lez::lez_path_table` meets its contract.
use Rattle.lez.proofs.lez_path_table.Goals as goal

pub returns : goal.returns
returns c = rw c.hand_over.ensures at c.path_table.ensures
