-- The answer says the outcome.
use Rattle.periods.proofs.lags_at.Goals as goal

pub returns : goal.returns
returns c = rw c.of.ensures c.lags_by.ensures
