-- Each turn fills one more entry of both lists.
use Rattle.std.proofs.Common.{rules, sym, arith, length-set}
use Rattle.sheet.specs.Laws.Filled.{filled_none, filled_turn}
use Rattle.sheet.proofs.opened.Formed.limits.Goals as goal

pub loop-b-init : goal.loop-b-init
loop-b-init c = (search rules, search rules, sym (filled_none _ _), sym (filled_none _ _))

pub loop-b-preserved : goal.loop-b-preserved
loop-b-preserved c = (
  simp length-set (omega (arith, c.loop-b.invariant.0)),
  simp length-set (omega (arith, c.loop-b.invariant.1)),
  filled_turn _ _ _ _ _ c.loop-b.invariant.2 c.block-block.ensures.lower_is,
  filled_turn _ _ _ _ _ c.loop-b.invariant.3 c.block-block.ensures.upper_is,
)
