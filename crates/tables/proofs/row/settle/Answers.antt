-- From the bare start block, round after round covers one wire more.
use native.Mathlib.Omega.{arith}
use mathlib.Core.Path.{refl, ap}
use mathlib.Core.List.{List}
use Prim.Native.Nat.{ℕ}
use lib.ListN.{set}
use Rattle.tables.specs.Keys.{key_w, key_d}
use Rattle.paths.proofs.Way.{limits}
use Rattle.tables.specs.Laws.Filling.{filling_start, filling_turn, filling_stops, filling_ends}
use Rattle.tables.specs.Laws.Keys.{length_decoded, cleared_whole, cleared_w, cleared_d, filled_blank}
use Rattle.std.proofs.Common.{sym, ◌≡◌, ◌-◌, ◌+◌, get_or}
use Rattle.std.proofs.lemmas.List.{length-replicate}
use Rattle.tables.proofs.row.settle.Goals as goal

pub loop-done-init : goal.loop-done-init
loop-done-init c =
    let d = c.args.costed.now in
    let w = d.wiring.now.wires in
    let l = length-replicate {A = ℕ} 64 18446744071562067968 in
    let u = c.requires in
    let small = d.small.small _ u in
    let k = ap (λ (l : List ℕ). set l c.args.u (2147483648 - get_or d.delays.now c.args.u 0)) (sym (filled_blank 18446744071562067968 d.wiring.now.n 64 w.few_blocks)) in
    let start : 2147483648 - get_or d.delays.now c.args.u 0 + get_or d.delays.now c.args.u 0 ≡ 2147483648 = omega (arith, small) in
    let whole = cleared_whole _ _ _ _ _ _ w.few_blocks l u small start k in
    (whole, filling_start _ _ _ (limits _ _ _ _ _ _ w d.small) u d.no_loop w.few_blocks _ _ _ _ _ (length_decoded key_w _ _ (omega (arith, w.few_blocks, l))) (length_decoded key_d _ _ (omega (arith, w.few_blocks, l))) refl (cleared_w _ _ _ _ _ _ w.few_blocks l u small start k) (cleared_d _ _ _ _ _ _ w.few_blocks l u small start k))

pub round-requires : goal.round-requires
round-requires c =
    let d = c.args.costed.now in
    record { start = (c.requires, omega (arith, d.wiring.now.wires.few_blocks), omega (arith, d.small.small _ c.requires)); whole = (c.loop-done.invariant.0, c.loop-done.invariant.1.row) }

pub returns-then-not-round : goal.returns-then-not-round
returns-then-not-round c =
    let d = c.args.costed.now in
    record {
      whole = c.round.ensures.whole;
      right = filling_stops _ _ _ (limits _ _ _ _ _ _ d.wiring.now.wires d.small) c.requires d.no_loop d.wiring.now.wires.few_blocks _ _ _ _ _ _ c.loop-done-test.true c.loop-done.invariant.1 c.round.ensures.rounded c.if-not-round.true;
    }

pub loop-done-preserved : goal.loop-done-preserved
loop-done-preserved c =
    let d = c.args.costed.now in
    (c.round.ensures.whole, filling_turn _ _ _ (limits _ _ _ _ _ _ d.wiring.now.wires d.small) c.requires d.no_loop d.wiring.now.wires.few_blocks _ _ _ _ _ _ c.loop-done-test.true c.loop-done.invariant.1 c.round.ensures.rounded)

pub returns : goal.returns
returns c =
    let d = c.args.costed.now in
    record {
      whole = c.loop-done.invariant.0;
      right = filling_ends _ _ _ (limits _ _ _ _ _ _ d.wiring.now.wires d.small) c.requires d.no_loop d.wiring.now.wires.few_blocks _ _ _ (omega arith) (omega arith) c.loop-done.invariant.1;
    }
