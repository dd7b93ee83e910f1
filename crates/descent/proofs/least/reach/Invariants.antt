use Rattle.descent.specs.Least.{Nears}
use Rattle.descent.proofs.least.reach.Given as goal

abbrev pub invariant-loop-v : goal.invariant-loop-v
invariant-loop-v l = Nears l.keys l.lags l.v l.least
