-- The answer says the outcome.
use Rattle.loops.proofs.check_loop.Goals as goal

pub returns : goal.returns
returns c = rw c.of.ensures c.checked.ensures
