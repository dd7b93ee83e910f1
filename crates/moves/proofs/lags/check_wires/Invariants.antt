-- Every wire below j stays in its limits.
use Rattle.std.proofs.Common.{◌<◌}
use Rattle.sheet.specs.Core.{core_of}
use Rattle.moves.specs.Lags.{lags_in, Fits}
use Rattle.moves.proofs.lags.check_wires.Given as goal

abbrev pub invariant-loop-j : goal.invariant-loop-j
invariant-loop-j l = (k : _) → k < l.j → (Fits (core_of l.asked.sheet.bytes.now) (lags_in l.asked.lags.now) k → ⊥) → ⊥
