-- Sweep after sweep covers one wire more; one that changes nothing settles the heights.
use native.Mathlib.Omega.{arith}
use mathlib.Core.Path.{refl, ◌∙◌}
use Rattle.paths.proofs.Heights.{heights_start, covered_start, covered_more, risen_still, risen_end, risen_above}
use Rattle.paths.proofs.rise.rise.Goals as goal

pub loop-done-init : goal.loop-done-init
loop-done-init c = let p = c.requires in
    (p.long, heights_start _ _ _ p.long (λ v h. refl) p.small, covered_start _ _ _ (λ v h. omega arith), c.of-forth.ensures, c.turned-back.ensures ∙ c.of-forth.ensures)

pub returns-then-not-sweep : goal.returns-then-not-sweep
returns-then-not-sweep c = let p = rw c.loop-done.invariant.3 at c.sweep.ensures in
    risen_still _ _ _ _ _ _ _ _ c.loop-done.invariant.2 (omega (arith, c.args.wiring.now.wires.few_blocks)) p c.if-not-sweep.true

pub highest-requires : goal.highest-requires
highest-requires c = let w = c.args.wiring.now.wires in
    (w.some_block, w.few_blocks)

pub returns-then-limit-highest : goal.returns-then-limit-highest
returns-then-limit-highest c = let p = rw c.loop-done.invariant.3 at c.sweep.ensures in
    risen_above _ _ _ _ _ _ (omega (arith, c.args.wiring.now.wires.few_blocks)) p.heights c.highest.ensures c.if-limit-highest.true

pub loop-done-preserved : goal.loop-done-preserved
loop-done-preserved c = let p = rw c.loop-done.invariant.3 at c.sweep.ensures in
    let h = p.heights in
    (h.long, h, covered_more _ _ _ _ _ _ _ c.loop-done.invariant.2 p, c.loop-done.invariant.4, c.loop-done.invariant.3)

pub returns : goal.returns
returns c = risen_end _ _ _ _ _ _ (omega arith) (omega (arith, c.args.wiring.now.wires.few_blocks)) c.loop-done.invariant.2 c.loop-done.invariant.1
