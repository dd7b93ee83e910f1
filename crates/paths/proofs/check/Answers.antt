-- The answer says the outcome.
use Rattle.paths.proofs.check.Goals as goal

pub returns : goal.returns
returns c = rw c.of.ensures c.checked.ensures
