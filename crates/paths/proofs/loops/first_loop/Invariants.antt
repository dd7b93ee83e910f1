-- No block below b is on a register-free loop, and no wire below j leads back to b.
use Rattle.std.proofs.Common.{◌≡◌, [], ◌<◌, None}
use Rattle.paths.specs.Lists.{held}
use Rattle.paths.specs.Loops.{Back}
use Rattle.paths.specs.Table.{LoopAt}
use Rattle.paths.specs.Wired.{wired, weights}
use Rattle.paths.proofs.loops.first_loop.Given as goal

abbrev pub invariant-loop-j : goal.invariant-loop-j
invariant-loop-j l = (l.found ≡ None) × ((k : _) → k < l.j → Back l.b (held l.wiring.from k) (held l.wiring.to k) (held l.wiring.registers k) l.seen → ⊥)

abbrev pub invariant-search : goal.invariant-search
invariant-search l = (l.found ≡ None) × ((k : _) → k < l.b → LoopAt (wired l.wiring []) (weights l.wiring) k → ⊥)
