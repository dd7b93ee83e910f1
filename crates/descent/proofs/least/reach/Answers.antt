use native.Mathlib.Omega.{arith}
use Rattle.descent.specs.Laws.Reach.{lag_small, nears_more, reach_end}
use Rattle.descent.proofs.least.reach.Goals as goal

pub loop-v-preserved : goal.loop-v-preserved
loop-v-preserved c = nears_more c.requires c.scale-scaled.ensures c.loop-v-test.true (omega (arith, lag_small c.requires.lags c.loop-v-test.true)) c.loop-v.invariant c.near-least.ensures

pub returns : goal.returns
returns c = reach_end c.loop-v.invariant (omega arith) (omega (arith, c.loop-v.invariant.within))
