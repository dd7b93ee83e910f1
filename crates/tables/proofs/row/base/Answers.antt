-- By whether the wire leads out of the start block.
use Rattle.std.proofs.Common.{eq-eqb, ne_eqb}
use Rattle.tables.proofs.row.base.Goals as goal

pub returns-then-f-u : goal.returns-then-f-u
returns-then-f-u c = simp (eq-eqb _ _ c.if-f-u.true)

pub returns-else-f-u : goal.returns-else-f-u
returns-else-f-u c = simp (ne_eqb _ _ c.if-f-u.false)
