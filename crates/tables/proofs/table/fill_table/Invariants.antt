-- The rows of the blocks below u are filled.
use Rattle.tables.specs.Costed.{shape_of, weights_of}
use Rattle.tables.specs.Row.{Rows}
use Rattle.tables.proofs.table.fill_table.Given as goal

abbrev pub invariant-loop-u : goal.invariant-loop-u
invariant-loop-u l = Rows (shape_of l.costed) (weights_of l.costed) l.u l.initial.ws l.initial.ds l.ws l.ds
