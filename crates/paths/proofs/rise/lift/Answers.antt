-- The store keeps the larger of both heights, and the test tells which one it is.
use mathlib.Core.Path.{refl, ap}
use lib.ListN.{set}
use Rattle.paths.proofs.Heights.{lifted}
use Rattle.paths.proofs.rise.lift.Goals as goal

pub returns : goal.returns
returns c = lifted c.args.f c.args.t c.args.d _ c.args.heights.now _ refl (ap (set c.args.heights.now c.args.t) c.max.ensures)
