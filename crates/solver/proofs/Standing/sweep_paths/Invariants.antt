use Rattle.solver.specs.State.{Swept, PathsHold}
use Rattle.solver.proofs.Standing.sweep_paths.Given as goal

abbrev pub invariant-loop-u : goal.invariant-loop-u
invariant-loop-u l = Swept l.given (PathsHold l.given l.u) l.initial.self l.self l.lowered
