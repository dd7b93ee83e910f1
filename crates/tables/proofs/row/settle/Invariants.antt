-- After `done` rounds the row is ahead of every path of at most so many wires.
use Rattle.tables.specs.Costed.{shape_of, weights_of}
use Rattle.tables.specs.Keys.{row_w, row_d, Whole}
use Rattle.tables.specs.Laws.Filling.{Filling}
use Rattle.tables.proofs.row.settle.Given as goal

abbrev pub invariant-loop-done : goal.invariant-loop-done
invariant-loop-done l =
    let n = l.costed.wiring.now.n in
    Whole n l.keys × Filling (shape_of l.costed) (weights_of l.costed) l.u l.done (row_w n l.keys) (row_d n l.keys)
