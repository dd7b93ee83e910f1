-- Each row comes back right; the rows before it and all past the table stay.
use native.Mathlib.Omega.{arith}
use Prim.Native.Nat.{◌-◌, ◌*◌, ◌+◌}
use Rattle.paths.specs.Laws.Parts.{row_before, length_part}
use Rattle.tables.specs.Laws.Tables.{rows_none, rows_more, rows_end}
use Rattle.tables.proofs.table.fill_table.Goals as goal

pub loop-u-init : goal.loop-u-init
loop-u-init c = rows_none _ _ _ _

pub overflow_mul-a : goal.overflow_mul-a
overflow_mul-a c = omega (arith, row_before c.args.costed.now.wiring.now.n c.loop-u.u c.args.costed.now.wiring.now.n c.loop-u-test.true, c.requires.0)

pub overflow_add-e : goal.overflow_add-e
overflow_add-e c = omega (arith, row_before c.args.costed.now.wiring.now.n c.loop-u.u c.args.costed.now.wiring.now.n c.loop-u-test.true, c.requires.0)

pub offset_bounds-ws-a : goal.offset_bounds-ws-a
offset_bounds-ws-a c = omega (arith, row_before c.args.costed.now.wiring.now.n c.loop-u.u c.args.costed.now.wiring.now.n c.loop-u-test.true, c.requires.0)

pub slice_bounds-fill_row-end : goal.slice_bounds-fill_row-end
slice_bounds-fill_row-end c = omega (arith, row_before c.args.costed.now.wiring.now.n c.loop-u.u c.args.costed.now.wiring.now.n c.loop-u-test.true, c.requires.0)

pub offset_bounds-ds-a : goal.offset_bounds-ds-a
offset_bounds-ds-a c = omega (arith, row_before c.args.costed.now.wiring.now.n c.loop-u.u c.args.costed.now.wiring.now.n c.loop-u-test.true, c.requires.0)

pub slice_bounds-fill_row-end-in-loop-u : goal.slice_bounds-fill_row-end-in-loop-u
slice_bounds-fill_row-end-in-loop-u c = omega (arith, row_before c.args.costed.now.wiring.now.n c.loop-u.u c.args.costed.now.wiring.now.n c.loop-u-test.true, c.requires.1)

pub fill_row-requires : goal.fill_row-requires
fill_row-requires c = let n = c.args.costed.now.wiring.now.n in
    let r = row_before n c.loop-u.u n c.loop-u-test.true in
    (c.loop-u-test.true, length_part c.loop-u.ws (c.loop-u.u * n) n (omega (arith, r, c.requires.0)), length_part c.loop-u.ds (c.loop-u.u * n) n (omega (arith, r, c.requires.1)))

pub loop-u-preserved : goal.loop-u-preserved
loop-u-preserved c = let n = c.args.costed.now.wiring.now.n in
    rows_more _ _ _ (c.loop-u.u * n + n - c.loop-u.u * n) c.loop-u-test.true (omega arith) _ _ _ _ _ _ (omega (arith, c.requires.0)) (omega (arith, c.requires.1)) c.loop-u.invariant c.fill_row.ensures

pub returns : goal.returns
returns c = rows_end _ _ _ _ _ _ _ (omega arith) c.loop-u.invariant
