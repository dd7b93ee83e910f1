use Rattle.descent.specs.Least.{Near}
use Rattle.descent.proofs.least.near.Given as goal

abbrev pub invariant-loop-u : goal.invariant-loop-u
invariant-loop-u l = Near l.keys l.scaled l.v l.plus l.best l.u l.least
