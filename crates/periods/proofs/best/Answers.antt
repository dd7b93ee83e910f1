-- The answer says the outcome.
use Rattle.periods.proofs.best.Goals as goal

pub returns : goal.returns
returns c = rw c.of.ensures c.lags_by.ensures
