use Rattle.std.proofs.Common.{arith}
use Rattle.solver.specs.Laws.Walk.{walk_start, walk_step, walk_end, walk_over}
use Rattle.solver.proofs.walk.meets.Goals as goal

pub loop-init : goal.loop-init
loop-init c = walk_start _ _ _ _ c.requires.0 c.requires.1

pub returns-then-v-eq0 : goal.returns-then-v-eq0
returns-then-v-eq0 c = walk_end c.requires.0 c.loop.invariant c.if-v-a.false c.if-v-eq0.true

pub loop-preserved : goal.loop-preserved
loop-preserved c = walk_step c.requires.0 c.loop.invariant c.if-v-a.false c.if-v-eq0.false

pub unreachable-requires : goal.unreachable-requires
unreachable-requires c = walk_over c.requires.0 c.loop.invariant (omega arith)
