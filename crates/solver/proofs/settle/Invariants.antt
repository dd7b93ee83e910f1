-- Each round lowers some lag, or is the last.
use Rattle.sheet.specs.Sum.{sum}
use Rattle.solver.specs.State.{State}
use Rattle.solver.proofs.settle.Given as goal

abbrev pub invariant-loop : goal.invariant-loop
invariant-loop l = State l.given l.standing

abbrev pub decreases-loop : goal.decreases-loop
decreases-loop l = sum l.standing.lags
