-- What is marked, b reaches; each pass but the last marks a block.
use Rattle.std.proofs.Common.{[], ◌-◌}
use Rattle.paths.specs.Loops.{Flags, Marked, marks}
use Rattle.paths.specs.Wired.{wired, weights}
use Rattle.paths.proofs.loops.reach.Given as goal

abbrev pub invariant-loop : goal.invariant-loop
invariant-loop l = Flags l.seen × Marked (wired l.wiring []) (weights l.wiring) l.b l.seen

abbrev pub decreases-loop : goal.decreases-loop
decreases-loop l = 64 - marks l.seen
