-- Wire after wire is tried; what has been tried stays tried.
use native.Mathlib.Omega.{arith}
use mathlib.Core.Path.{◌≡◌, refl}
use Rattle.paths.proofs.Heights.{listed_wire, listed_register, listed_few, trying_next, swept}
use Rattle.paths.proofs.Way.{limits}
use Rattle.paths.proofs.rise.sweep.Goals as goal

pub lift-rose-requires : goal.lift-rose-requires
lift-rose-requires c = let f = c.args.free.now in
    let w = f.wiring.now.wires in
    let l = listed_wire f.listed c.loop-i.i c.loop-i-test.true in
    let h = c.loop-i.invariant.heights in
    (omega (arith, w.from_block _ l, w.few_blocks), omega (arith, w.to_block _ l, w.few_blocks), omega (arith, h.small _ (w.from_block _ l), c.requires.delays.0.small _ (w.to_block _ l), c.requires.delays.1, listed_few f.listed, w.few_wires))

pub loop-i-preserved : goal.loop-i-preserved
loop-i-preserved c = let f = c.args.free.now in
    let w = f.wiring.now.wires in
    trying_next _ _ (limits _ _ _ _ _ _ w c.requires.delays.0) w.few_blocks _ _ _ _ _ _ _ _ c.loop-i.invariant (listed_wire f.listed c.loop-i.i c.loop-i-test.true) (listed_register f.listed _ c.loop-i-test.true) refl _ c.lift-rose.ensures

pub returns : goal.returns
returns c = let f = c.args.free.now in
    let w = f.wiring.now.wires in
    let e : c.loop-i.i ≡ f.count = omega arith in
    swept _ _ (limits _ _ _ _ _ _ w c.requires.delays.0) w.few_blocks _ _ _ _ _ _ _ f.listed (omega (arith, listed_few f.listed, w.few_wires)) (rw e at c.loop-i.invariant)
