-- The descent begins at the upper limits.
use Rattle.periods.proofs.quick.sought.Goals as goal

pub settle-requires-clause-state : goal.settle-requires-clause-state
settle-requires-clause-state c = c.start-descent.ensures _

pub settle-requires-in-Least-clause-state : goal.settle-requires-in-Least-clause-state
settle-requires-in-Least-clause-state c = c.start-descent.ensures _
