-- Each turn puts one more wire's registers.
use Rattle.std.proofs.Common.{sym, refl}
use Rattle.moves.specs.Laws.Writing.{puts_none, puts_turn}
use Rattle.moves.proofs.lags.Move.put_registers.Goals as goal

pub loop-j-init : goal.loop-j-init
loop-j-init c = sym (puts_none _ _ _)

pub loop-j-preserved : goal.loop-j-preserved
loop-j-preserved c = puts_turn _ _ _ _ _ _ _ _ c.loop-j.invariant refl c.registers.ensures.is c.put_u16.ensures
