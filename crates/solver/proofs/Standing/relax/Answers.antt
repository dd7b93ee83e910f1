-- A rule that leaves no solution is stuck at its own bound; one that is kept lowers a.
use Rattle.std.proofs.Common.{inl, inr, arith}
use Rattle.solver.specs.Laws.State.{step_lowers}
use Rattle.solver.proofs.Standing.relax.Goals as goal

pub returns-then-meets : goal.returns-then-meets
returns-then-meets c = (c.requires.0, record { k = c.args.k; says = c.requires.1; broken = omega arith; why = inl (rw c.if-meets.true at c.meets.ensures) })

pub returns-then-most-given : goal.returns-then-most-given
returns-then-most-given c = (c.requires.0, record { k = c.args.k; says = c.requires.1; broken = omega arith; why = inr (omega arith) })

pub returns : goal.returns
returns c = step_lowers c.requires.0 c.requires.1 _ (omega arith) (omega arith) (omega arith) (rw c.if-meets.false at c.meets.ensures)
