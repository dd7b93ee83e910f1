-- Lag after lag is stored.
use borrow.Author.Rules.{sfits_of}
use mir.Facts.{to_z-of_z}
use mir.Syntax.{w16}
use Rattle.std.proofs.Common.{sym, ◌∙◌}
use Rattle.sheet.specs.Laws.Filled.{filled_none, filled_turn}
use Rattle.refusals.proofs.load.write_lags.Goals as goal

pub loop-b-init : goal.loop-b-init
loop-b-init c = sym (filled_none _ _)

pub loop-b-preserved : goal.loop-b-preserved
loop-b-preserved c = filled_turn _ _ _ _ _ c.loop-b.invariant (to_z-of_z {w = w16} (sfits_of c.lag_of.type_inv) ∙ c.lag_of.ensures)
