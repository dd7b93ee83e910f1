-- Height after height is looked at.
use native.Mathlib.Omega.{arith}
use mathlib.Core.Path.{◌≡◌}
use Rattle.paths.proofs.Heights.{highest_first, highest_next}
use Rattle.paths.proofs.rise.highest.Goals as goal

pub loop-v-init : goal.loop-v-init
loop-v-init c = highest_first _

pub loop-v-preserved : goal.loop-v-preserved
loop-v-preserved c = highest_next _ _ _ _ c.loop-v.invariant c.max-best.ensures

pub returns : goal.returns
returns c = let e : c.loop-v.v ≡ c.args.n = omega arith in rw e at c.loop-v.invariant
