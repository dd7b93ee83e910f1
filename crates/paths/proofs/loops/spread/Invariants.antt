-- The wires below j were tried.
use Rattle.std.proofs.Common.{[]}
use Rattle.paths.specs.Loops.{Spread}
use Rattle.paths.specs.Wired.{wired, weights}
use Rattle.paths.proofs.loops.spread.Given as goal

abbrev pub invariant-loop-j : goal.invariant-loop-j
invariant-loop-j l = Spread (wired l.wiring []) (weights l.wiring) l.j l.initial.seen l.seen l.marked
