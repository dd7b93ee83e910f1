-- The first i listed wires were tried.
use Rattle.std.proofs.Common.{◌*◌}
use Rattle.paths.specs.Rise.{Trying}
use Rattle.paths.specs.Wired.{wired, weights}
use Rattle.paths.proofs.rise.sweep.Given as goal

abbrev pub invariant-loop-i : goal.invariant-loop-i
invariant-loop-i l = Trying (wired l.wiring l.delays) (weights l.wiring) (256 * l.done) l.i l.free.list l.initial.heights l.heights l.rose
