use Rattle.solver.specs.State.{Swept, WiresHold}
use Rattle.solver.proofs.Standing.sweep_wires.Given as goal

abbrev pub invariant-loop-j : goal.invariant-loop-j
invariant-loop-j g l = Swept l.given (WiresHold l.from l.to l.bounds l.j) l.initial.self l.self l.lowered
