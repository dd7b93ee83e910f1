use Prim.Native.Nat.{◌≤◌}
use Rattle.descent.specs.State.{Going, work}
use Rattle.descent.proofs.settle.Descent.settle.Given as goal

abbrev pub invariant-loop-self : goal.invariant-loop-self
invariant-loop-self l = (l.limit ≤ 64) × Going l.rules l.c l.self.lags l.self.seen

abbrev pub decreases-loop-self : goal.decreases-loop-self
decreases-loop-self l = work l.self.lags l.self.seen
