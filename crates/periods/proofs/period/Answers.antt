-- The answer says the outcome.
use Rattle.periods.proofs.period.Goals as goal

pub returns : goal.returns
returns c = rw c.of.ensures c.standing.ensures
