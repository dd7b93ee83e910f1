-- Every wire below j is good.
use Rattle.std.proofs.Common.{◌<◌}
use Rattle.sheet.specs.Sheet.{WireGood}
use Rattle.sheet.proofs.entries.check_wires.Given as goal

abbrev pub invariant-loop-j : goal.invariant-loop-j
invariant-loop-j l = (k : _) → k < l.j → (WireGood l.sheet.bytes.now k → ⊥) → ⊥
