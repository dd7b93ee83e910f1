use Rattle.solver.specs.Laws.Walk.{Walking}
use Rattle.solver.proofs.walk.meets.Given as goal

abbrev pub invariant-loop : goal.invariant-loop
invariant-loop l = Walking l.n l.next l.a l.b l.v l.counter
