-- Every block below b is good.
use Rattle.std.proofs.Common.{◌<◌}
use Rattle.sheet.specs.Sheet.{BlockGood}
use Rattle.sheet.proofs.entries.check_blocks.Given as goal

abbrev pub invariant-loop-b : goal.invariant-loop-b
invariant-loop-b l = (k : _) → k < l.b → (BlockGood l.sheet.bytes.now k → ⊥) → ⊥
