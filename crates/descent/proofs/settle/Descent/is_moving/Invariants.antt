use Rattle.descent.specs.State.{Left}
use Rattle.descent.proofs.settle.Descent.is_moving.Given as goal

abbrev pub invariant-loop-w : goal.invariant-loop-w
invariant-loop-w l = Left l.self.lags l.self.seen l.w l.some
