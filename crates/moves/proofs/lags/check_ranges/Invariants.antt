-- Every lag below b is in its range.
use Rattle.std.proofs.Common.{◌<◌}
use Rattle.sheet.specs.Core.{core_of}
use Rattle.moves.specs.Lags.{lags_in, InRange}
use Rattle.moves.proofs.lags.check_ranges.Given as goal

abbrev pub invariant-loop-b : goal.invariant-loop-b
invariant-loop-b l = (k : _) → k < l.b → (InRange (core_of l.asked.sheet.bytes.now) (lags_in l.asked.lags.now) k → ⊥) → ⊥
