-- A lag plus 32,768 is its excess number, and nothing wraps.
use native.Mathlib.Omega.{arith}
use mir.Facts.{to_z-of_z, sfits_widen}
use mathlib.Core.Path.{ap}
use lib.IntN.{nat_abs}
use Rattle.sheet.specs.Laws.Lag.{excess_fits}
use Rattle.sheet.proofs.Signed.{sum, sum_fits, sum_read}
use Rattle.sheet.proofs.lag.excess_of.Goals as goal

pub overflow_cast-result : goal.overflow_cast-result
overflow_cast-result c = rw (to_z-of_z c.ranges.lag) (sfits_widen tt c.ranges.lag)

pub overflow_add-result : goal.overflow_add-result
overflow_add-result c = rw (sum _ c.ranges.lag) (sum_fits _ c.ranges.lag)

pub overflow_cast-result-2 : goal.overflow_cast-result-2
overflow_cast-result-2 c = rw (sum_read _ c.ranges.lag) (tt, record { fits = omega (arith, excess_fits c.args.lag c.ranges.lag.sfits) })

pub returns : goal.returns
returns c = let e = ap nat_abs (sum_read _ c.ranges.lag) in record { is = e; below = omega (arith, e, excess_fits c.args.lag c.ranges.lag.sfits); fits = c.ranges.lag.sfits }
