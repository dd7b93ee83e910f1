-- Each turn fills one more entry.
use Rattle.std.proofs.Common.{rules, sym, arith, length-set}
use Rattle.sheet.specs.Laws.Filled.{filled_none, filled_turn}
use Rattle.sheet.proofs.opened.Formed.delays.Goals as goal

pub loop-b-init : goal.loop-b-init
loop-b-init c = (search rules, sym (filled_none _ _))

pub loop-b-preserved : goal.loop-b-preserved
loop-b-preserved c = (simp length-set (omega (arith, c.loop-b.invariant.0)), filled_turn _ _ _ _ _ c.loop-b.invariant.1 c.block.ensures.delay_is)
