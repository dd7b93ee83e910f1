-- Wire after wire is tried.
use native.Mathlib.Omega.{arith}
use Rattle.tables.specs.Laws.Relax.{part_start, part_next, part_end, row_more}
use Rattle.paths.proofs.Way.{limits}
use Rattle.std.specs.Prelude.{◌+◌, ltb}
use Rattle.std.proofs.Common.{lt-ltb}
use Rattle.std.proofs.Math.Bool.{or-true, or-false}
use Rattle.tables.proofs.row.round.Goals as goal
use Rattle.tables.proofs.row.round.Goals.{then-relax, else-relax}

pub loop-j-init : goal.loop-j-init
loop-j-init c =
    let d = c.args.costed.now in
    (omega arith, c.requires.whole.0, part_start _ _ _ _ _ _ (limits _ _ _ _ _ _ d.wiring.now.wires d.small) c.requires.start.0 c.requires.whole.1)

pub relax-requires : goal.relax-requires
relax-requires c =
    let d = c.args.costed.now in
    record {
      start = (c.requires.start.0, c.loop-j-test.true, c.requires.start.2);
      whole = (c.loop-j.invariant.1, row_more _ _ _ (limits _ _ _ _ _ _ d.wiring.now.wires d.small) c.requires.start.0 _ 16384 _ _ (omega (arith, c.requires.start, d.wiring.now.wires.few_wires)) c.loop-j.invariant.2.row);
    }

pub loop-j-preserved : goal.loop-j-preserved
loop-j-preserved c =
    let d = c.args.costed.now in
    let next = part_next _ _ _ _ _ _ (limits _ _ _ _ _ _ d.wiring.now.wires d.small) c.requires.start.0 _ _ _ _ _ _ c.loop-j.invariant.2 c.loop-j-test.true (omega (arith, c.requires.start, d.wiring.now.wires.few_wires)) _ c.relax.ensures.relaxed in
    elim c.if-relax.branch [
      | then-relax w ↦ (omega (arith, w.improved-is, c.loop-j.invariant.0), c.relax.ensures.whole, rw (w.improved-is, lt-ltb 0 (c.loop-j.improved + 1) (omega arith)) (rw (w.if-relax.true, or-true (ltb 0 c.loop-j.improved)) at next))
      | else-relax w ↦ (omega (arith, w.improved-is, c.loop-j.invariant.0), c.relax.ensures.whole, rw w.improved-is (rw (w.if-relax.false, or-false (ltb 0 c.loop-j.improved)) at next))
    ]

pub returns : goal.returns
returns c =
    let d = c.args.costed.now in
    record {
      whole = c.loop-j.invariant.1;
      rounded = part_end _ _ _ _ _ _ (limits _ _ _ _ _ _ d.wiring.now.wires d.small) c.requires.start.0 _ _ _ _ (omega arith) (omega arith) (omega (arith, c.requires.start, d.wiring.now.wires.few_wires)) c.loop-j.invariant.2;
    }
