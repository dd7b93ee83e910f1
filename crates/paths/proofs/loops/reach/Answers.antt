-- Only what b reaches is marked, and each pass but the last marks more of at most 64 blocks.
use Rattle.paths.specs.Laws.Loops.{reach_start, reach_less, reach_end}
use Rattle.paths.proofs.loops.reach.Goals as goal

pub loop-init : goal.loop-init
loop-init c = reach_start _ _ _ c.requires c.args.wiring.now.wires.few_blocks

pub loop-smaller : goal.loop-smaller
loop-smaller c = reach_less _ _ _ _ _ _ c.spread.ensures c.loop-test.true

pub loop-preserved : goal.loop-preserved
loop-preserved c = (c.spread.ensures.flags, c.spread.ensures.kept _ c.loop.invariant.1)

pub returns : goal.returns
returns c = reach_end _ _ _ _ _ _ c.loop.invariant.1 c.spread.ensures c.loop-test.false
