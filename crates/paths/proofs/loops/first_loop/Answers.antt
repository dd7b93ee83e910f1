-- No block before b is on a register-free loop; b is on one exactly if a wire returns to it from what it reaches.
use mathlib.Core.Path.{refl}
use native.Mathlib.Omega.{arith}
use borrow.Author.Count.{below_none, below_more}
use Rattle.sheet.specs.Laws.Rules.{search_stops, search_ends, told_true, told_false}
use Rattle.paths.specs.Laws.Loops.{back_loop, no_back_no_loop}
use Rattle.paths.proofs.loops.first_loop.Goals as goal

pub search-init : goal.search-init
search-init c = (refl, below_none _)

pub loop-j-init : goal.loop-j-init
loop-j-init c = (c.search.invariant.0, below_none _)

pub returns_to-requires : goal.returns_to-requires
returns_to-requires c = let w = c.args.wiring.now.wires in
    omega (arith, w.few_blocks, w.from_block c.loop-j.j c.loop-j-test.true)

pub loop-j-preserved : goal.loop-j-preserved
loop-j-preserved c = (c.loop-j.invariant.0, below_more _ _ c.loop-j.invariant.1 (told_false _ _ c.returns_to.ensures c.if-returns_to.false))

pub search-preserved : goal.search-preserved
search-preserved c = (c.loop-j.invariant.0, below_more _ _ c.search.invariant.1 (no_back_no_loop _ _ _ _ c.reach-seen.ensures (λ k h. c.loop-j.invariant.1 k (omega arith))))

pub returns-after-search : goal.returns-after-search
returns-after-search c = rw c.search.invariant.0 (search_ends _ _ _ (omega arith) c.search.invariant.1)

pub returns-then-returns_to : goal.returns-then-returns_to
returns-then-returns_to c = (c.search-test.true, search_stops _ _ _ (omega arith) c.search.invariant.1 (back_loop _ _ _ _ c.reach-seen.ensures _ c.search-test.true c.loop-j-test.true (told_true _ _ c.returns_to.ensures c.if-returns_to.true)))
