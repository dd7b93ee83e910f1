-- The wires below j stand in the lists.
use Rattle.std.proofs.Common.{◌≡◌, length, replicate}
use Rattle.sheet.specs.Core.{from_in, to_in, registers_in}
use Rattle.sheet.specs.Filled.{filled}
use Rattle.paths.proofs.wiring.Wiring.of.Given as goal

abbrev pub invariant-loop-j : goal.invariant-loop-j
invariant-loop-j l =
    (length l.from ≡ 256)
    × (length l.to ≡ 256)
    × (length l.registers ≡ 256)
    × (l.from ≡ filled (from_in l.sheet.bytes.now) l.j (replicate 256 0))
    × (l.to ≡ filled (to_in l.sheet.bytes.now) l.j (replicate 256 0))
    × (l.registers ≡ filled (registers_in l.sheet.bytes.now) l.j (replicate 256 0))
