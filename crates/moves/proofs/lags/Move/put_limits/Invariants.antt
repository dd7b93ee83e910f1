-- The limits of the blocks below b are put.
use Rattle.std.proofs.Common.{◌≡◌}
use Rattle.moves.specs.Lags.{lags_in}
use Rattle.moves.specs.Write.{limits_put}
use Rattle.moves.proofs.lags.Move.put_limits.Given as goal

abbrev pub invariant-loop-b : goal.invariant-loop-b
invariant-loop-b l = l.moved ≡ limits_put l.self.asked.sheet.bytes.now (lags_in l.self.asked.lags.now) l.b l.initial.moved
