-- Lag after lag is stored.
use Rattle.std.proofs.Common.{◌≡◌, get_or}
use Rattle.sheet.specs.Filled.{filled}
use Rattle.sheet.specs.Lag.{lag_of}
use Rattle.refusals.proofs.load.write_lags.Given as goal

abbrev pub invariant-loop-b : goal.invariant-loop-b
invariant-loop-b l = l.lags ≡ filled (λ i. lag_of (get_or l.e i 0)) l.b l.initial.lags
