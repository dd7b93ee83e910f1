-- The costs of the wires below j stand in the list.
use Rattle.std.proofs.Common.{◌≡◌, length, replicate}
use Rattle.sheet.specs.Filled.{filled}
use Rattle.tables.specs.Keys.{cost_at}
use Rattle.tables.proofs.costed.Costed.of.Given as goal

abbrev pub invariant-loop-j : goal.invariant-loop-j
invariant-loop-j l = (length l.costs ≡ 256) × (l.costs ≡ filled (cost_at l.delays l.wiring.to l.wiring.registers) l.j (replicate 256 0))
