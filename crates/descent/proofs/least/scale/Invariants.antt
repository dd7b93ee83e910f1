use Rattle.descent.specs.Least.{Scaled}
use Rattle.descent.proofs.least.scale.Given as goal

abbrev pub invariant-loop-u : goal.invariant-loop-u
invariant-loop-u l = Scaled l.lags l.scaled l.u
