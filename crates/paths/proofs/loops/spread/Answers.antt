-- After j turns the flag says whether the first j wires marked a block.
use borrow.Author.Rules.{rules}
use native.Mathlib.Omega.{arith}
use mathlib.Core.Path.{◌≡◌}
use Rattle.paths.specs.Laws.Loops.{spread_none, spread_next}
use Rattle.paths.proofs.loops.spread.Goals as goal

pub loop-j-init : goal.loop-j-init
loop-j-init c = spread_none _ _ _ (record { long = search rules })

pub mark-marked-requires : goal.mark-marked-requires
mark-marked-requires c = let w = c.args.wiring.now.wires in
    (omega (arith, w.few_blocks, w.from_block c.loop-j.j c.loop-j-test.true), omega (arith, w.few_blocks, w.to_block c.loop-j.j c.loop-j-test.true))

pub loop-j-preserved : goal.loop-j-preserved
loop-j-preserved c = let w = c.args.wiring.now.wires in
    spread_next _ _ _ _ _ _ _ c.loop-j-test.true (w.to_block c.loop-j.j c.loop-j-test.true) w.few_blocks c.loop-j.invariant _ c.mark-marked.ensures

pub returns : goal.returns
returns c = let e : c.loop-j.j ≡ c.args.wiring.now.m = omega arith in rw e at c.loop-j.invariant
