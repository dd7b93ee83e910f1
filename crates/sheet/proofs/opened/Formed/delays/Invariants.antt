-- The delays of the blocks below b stand in the list.
use Rattle.std.proofs.Common.{◌≡◌, length, replicate}
use Rattle.sheet.specs.Core.{delay_in}
use Rattle.sheet.specs.Filled.{filled}
use Rattle.sheet.proofs.opened.Formed.delays.Given as goal

abbrev pub invariant-loop-b : goal.invariant-loop-b
invariant-loop-b l = (length l.delays ≡ 64) × (l.delays ≡ filled (delay_in l.self.bytes.now) l.b (replicate 64 0))
