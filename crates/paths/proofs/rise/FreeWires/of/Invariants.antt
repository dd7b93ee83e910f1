-- The register-free wires below j are listed.
use Rattle.std.proofs.Common.{◌≡◌, ◌≤◌, length}
use Rattle.paths.specs.Rise.{Listed}
use Rattle.paths.specs.Wired.{weights}
use Rattle.paths.proofs.rise.FreeWires.of.Given as goal

abbrev pub invariant-loop-j : goal.invariant-loop-j
invariant-loop-j l = (l.count ≤ l.j) × (length l.list ≡ 256) × Listed (weights l.wiring) l.j l.count l.list
