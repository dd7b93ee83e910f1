-- An excess number less 32,768 is its lag, and nothing wraps.
use mir.Syntax.{w16, w32}
use mir.Facts.{sfits_widen}
use Rattle.sheet.proofs.Signed.{difference, lag_fits, difference_read, lag_read}
use Rattle.sheet.proofs.lag.lag_of.Goals as goal

pub overflow_sub-result : goal.overflow_sub-result
overflow_sub-result c = rw (difference _ c.requires) (sfits_widen {w = w16} {w' = w32} tt (lag_fits _ c.requires))

pub overflow_cast-result-2 : goal.overflow_cast-result-2
overflow_cast-result-2 c = rw (difference_read _ c.requires) (lag_fits _ c.requires)

pub returns : goal.returns
returns c = lag_read _ c.requires
