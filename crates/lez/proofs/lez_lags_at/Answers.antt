-- `lez::lez_lags_at` meets its contract.
use Rattle.lez.proofs.lez_lags_at.Goals as goal

pub returns : goal.returns
returns c = rw c.hand_over.ensures at c.lags_at.ensures
