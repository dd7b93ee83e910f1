-- Each turn fills one more entry of the three lists, which hold the wires of a formed sheet in the end.
use Rattle.std.proofs.Common.{rules, sym, arith, length-set, ◌≡◌}
use Rattle.sheet.specs.Laws.Filled.{filled_none, filled_turn}
use Rattle.paths.specs.Laws.Loaded.{over_zeros, wires_held}
use Rattle.paths.proofs.wiring.Wiring.of.Goals as goal

pub loop-j-init : goal.loop-j-init
loop-j-init c = (search rules, search rules, search rules, sym (filled_none _ _), sym (filled_none _ _), sym (filled_none _ _))

pub loop-j-preserved : goal.loop-j-preserved
loop-j-preserved c = let i = c.loop-j.invariant in (
  simp length-set (omega (arith, i.0)),
  simp length-set (omega (arith, i.1)),
  simp length-set (omega (arith, i.2)),
  filled_turn _ _ _ _ _ i.3 c.wire-wire.ensures.from_is,
  filled_turn _ _ _ _ _ i.4 c.wire-wire.ensures.to_is,
  filled_turn _ _ _ _ _ i.5 c.wire-wire.ensures.registers_is,
)

pub invariant_of-result : goal.invariant_of-result
invariant_of-result c =
    let e : c.loop-j.j ≡ c.args.sheet.m = omega arith in
    let i = rw e at c.loop-j.invariant in
    record { wires = wires_held c.args.sheet.bytes.now c.args.sheet.formed (over_zeros c.args.sheet.n_is c.args.sheet.m_is i.3 i.4 i.5) }
