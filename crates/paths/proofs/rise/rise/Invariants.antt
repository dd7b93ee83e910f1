-- After `done` sweeps the heights are paths', and every path of at most so many wires is covered.
use Rattle.std.proofs.Common.{◌≡◌, ◌*◌, length}
use Rattle.paths.specs.Rise.{Heights, Covered}
use Rattle.paths.specs.Wired.{wired, weights}
use Rattle.paths.proofs.rise.rise.Given as goal

abbrev pub invariant-loop-done : goal.invariant-loop-done
invariant-loop-done l =
    (length l.heights ≡ 64)
    × Heights (wired l.wiring l.delays) (weights l.wiring) (256 * l.done) l.heights
    × Covered (wired l.wiring l.delays) (weights l.wiring) l.done l.heights
    × (l.free.wiring.now ≡ l.wiring)
    × (l.other.wiring.now ≡ l.wiring)
