use Rattle.descent.specs.State.{Under}
use Rattle.descent.proofs.column.under.Given as goal

abbrev pub invariant-loop-u : goal.invariant-loop-u
invariant-loop-u l = Under l.lower l.lags l.u l.some
