-- Wire after wire is stored.
use Rattle.std.proofs.Common.{sym, ap}
use Rattle.sheet.specs.Core.{ceiling_of}
use Rattle.sheet.specs.Laws.Filled.{filled_none, filled_turn}
use Rattle.refusals.specs.Load.{wire_bound, ceiling_bound}
use Rattle.refusals.proofs.load.load_wires.Goals as goal

pub loop-j-init : goal.loop-j-init
loop-j-init c = (sym (filled_none _ _), sym (filled_none _ _), sym (filled_none _ _), sym (filled_none _ _))

pub loop-j-preserved : goal.loop-j-preserved
loop-j-preserved c = let i = c.loop-j.invariant in let w = c.wire-wire.ensures in (
  filled_turn _ _ _ _ _ i.0 w.from_is,
  filled_turn _ _ _ _ _ i.1 w.to_is,
  filled_turn _ _ _ _ _ i.2 (ap wire_bound w.registers_is),
  filled_turn _ _ _ _ _ i.3 (ap (ceiling_bound (ceiling_of 0)) w.registers_is),
)
