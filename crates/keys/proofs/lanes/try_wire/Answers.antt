-- Lane after lane is lowered to the wire's offer, or kept.
use native.Mathlib.Omega.{arith}
use Rattle.keys.specs.Laws.Lanes.{lanes_lower, lanes_keep}
use Rattle.keys.proofs.lanes.try_wire.Goals as goal
use Rattle.keys.proofs.lanes.try_wire.Goals.{then-x-old, else-x-old}

pub loop-s-preserved : goal.loop-s-preserved
loop-s-preserved c =
    elim c.if-x-old.branch [
      | then-x-old w ↦ lanes_lower c.loop-s.invariant c.requires.1 c.requires.2 c.loop-s-test.true c.requires.0 c.requires.4 _ _ (omega (arith, c.min.ensures, w.if-x-old.true)) w.changed-is w.if-x-old.true
      | else-x-old w ↦ lanes_keep c.loop-s.invariant c.requires.1 c.requires.2 c.loop-s-test.true c.requires.0 c.requires.4 _ _ (omega (arith, c.min.ensures, w.if-x-old.false)) w.changed-is w.if-x-old.false
    ]
