-- Permitted lags first, then those that meet the period.
use Rattle.std.proofs.Common.{subst, refl}
use Rattle.refusals.specs.Solving.{Hopeless}
use Rattle.refusals.specs.Laws.Solving.{first_refuses, solved_rests, hopeless_rest}
use Rattle.refusals.proofs.refuse.Goals as goal

pub returns-in-Err : goal.returns-in-Err
returns-in-Err c = first_refuses c.args.lags.now _ c.in-Err.is c.args.aim (c.load.ensures.loaded (record { period_is = refl; registers_are = refl; delays_are = refl })) (rw c.formed.ensures.0 at c.solve.ensures)

pub unreachable-requires : goal.unreachable-requires
unreachable-requires c = hopeless_rest (subst (Hopeless _) c.in-Least.is c.requires.2) (solved_rests (rw c.formed.ensures.0 at c.solve.ensures) c.in_default.is).0

pub returns : goal.returns
returns c = rw c.in-At.is (rw (solved_rests c.solve.ensures c.in_default.is).1 at c.lags_within.ensures)
