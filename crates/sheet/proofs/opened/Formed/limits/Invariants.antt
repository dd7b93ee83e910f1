-- The limits of the blocks below b stand in both lists.
use Rattle.std.proofs.Common.{◌≡◌, length, replicate}
use Rattle.sheet.specs.Lag.{excess}
use Rattle.sheet.specs.Core.{lower_in, upper_in}
use Rattle.sheet.specs.Filled.{filled}
use Rattle.sheet.proofs.opened.Formed.limits.Given as goal

abbrev pub invariant-loop-b : goal.invariant-loop-b
invariant-loop-b l =
    (length l.limits.lower ≡ 64)
    × (length l.limits.upper ≡ 64)
    × (l.limits.lower ≡ filled (λ i. excess (lower_in l.self.bytes.now i)) l.b (replicate 64 32768))
    × (l.limits.upper ≡ filled (λ i. excess (upper_in l.self.bytes.now i)) l.b (replicate 64 32768))
