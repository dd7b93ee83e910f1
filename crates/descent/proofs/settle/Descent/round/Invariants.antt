use Rattle.descent.specs.State.{Rounded}
use Rattle.descent.proofs.settle.Descent.round.Given as goal

abbrev pub invariant-loop-v : goal.invariant-loop-v
invariant-loop-v l = Rounded l.rules l.c l.v l.initial.self.lags l.initial.self.seen l.self.lags l.self.seen
