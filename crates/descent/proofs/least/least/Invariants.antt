use Prim.Native.Nat.{◌-◌, ◌≤◌}
use Rattle.descent.specs.Laws.Reach.{Searched}
use Rattle.descent.proofs.least.least.Given as goal

abbrev pub invariant-loop-low : goal.invariant-loop-low
invariant-loop-low g l = (l.failed ≤ l.low) × Searched l.rules g.c l.low l.high l.descent.lags

abbrev pub decreases-loop-low : goal.decreases-loop-low
decreases-loop-low g l = l.high - l.low
