-- The wires below j were tried, and each improved one block at most.
use Rattle.std.specs.Prelude.{◌*◌, ◌≤◌, ltb}
use Rattle.tables.specs.Costed.{shape_of, weights_of}
use Rattle.tables.specs.Keys.{row_w, row_d, Whole}
use Rattle.tables.specs.Laws.Relax.{Part}
use Rattle.tables.proofs.row.round.Given as goal

abbrev pub invariant-loop-j : goal.invariant-loop-j
invariant-loop-j l =
    let n = l.costed.wiring.now.n in
    (l.improved ≤ l.j)
    × Whole n l.keys
    × Part (shape_of l.costed) (weights_of l.costed) l.u (256 * l.done) l.j (row_w n l.initial.keys) (row_d n l.initial.keys) (row_w n l.keys) (row_d n l.keys) (ltb 0 l.improved)
