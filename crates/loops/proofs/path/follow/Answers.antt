-- Each wire takes the path one block further, or it does not lead on.
use Rattle.std.proofs.Common.{refl, arith}
use Rattle.loops.specs.Laws.Follow.{follow_step, follow_stuck}
use Rattle.loops.proofs.path.follow.Goals as goal

pub returns-in_err-leg : goal.returns-in_err-leg
returns-in_err-leg c = rw c.from_residual.ensures (follow_stuck c.args.sheet.bytes.now c.args.wires.now c.args.start _ _ _ _ c.loop-wire.invariant _ _ c.loop-wire-test.true (omega arith) refl c.in_err-leg.ensures)

pub loop-wire-preserved : goal.loop-wire-preserved
loop-wire-preserved c = follow_step c.args.sheet.bytes.now c.args.wires.now c.args.start _ _ _ _ c.loop-wire.invariant _ _ _ _ c.loop-wire-test.true refl c.in_ok-leg.ensures
