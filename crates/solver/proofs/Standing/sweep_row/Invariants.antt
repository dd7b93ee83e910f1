use Rattle.solver.specs.State.{Swept, RowHolds}
use Rattle.solver.proofs.Standing.sweep_row.Given as goal

abbrev pub invariant-loop-v : goal.invariant-loop-v
invariant-loop-v l = Swept l.given (RowHolds l.given l.u l.v) l.initial.self l.self l.lowered
