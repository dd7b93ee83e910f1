use native.Mathlib.Omega.{arith}
use Rattle.descent.specs.Laws.Reach.{near_key, near_turn}
use Rattle.descent.proofs.least.near.Goals as goal

pub loop-u-preserved : goal.loop-u-preserved
loop-u-preserved c = near_turn _ c.loop-u.invariant (omega (arith, near_key c.requires c.loop-u-test.true)) c.min-least.ensures
