use native.Mathlib.Omega.{arith}
use Rattle.descent.specs.Laws.Column.{push_lowers, push_stays}
use Rattle.descent.proofs.column.Column.push.Goals as goal
use Rattle.descent.proofs.column.Column.push.Goals.{then-most-lag, else-most-lag}

pub loop-u-preserved : goal.loop-u-preserved
loop-u-preserved c =
    elim c.if-most-lag.branch [
      | then-most-lag w ↦ push_lowers _ c.loop-u.invariant (omega arith) _ (omega (arith, w.lag-is, w.if-most-lag.true, c.bar-most.ensures)) (omega (arith, w.if-most-lag.true, c.bar-most.ensures))
      | else-most-lag w ↦ push_stays _ c.loop-u.invariant (omega arith) _ (omega (arith, w.if-most-lag.false, c.bar-most.ensures)) w.lag-is
    ]
