-- Wire after wire is stored.
use Rattle.std.proofs.Common.{◌≡◌}
use Rattle.sheet.specs.Core.{from_in, to_in, registers_in, ceiling_of}
use Rattle.sheet.specs.Filled.{filled}
use Rattle.refusals.specs.Load.{wire_bound, ceiling_bound}
use Rattle.refusals.proofs.load.load_wires.Given as goal

abbrev pub invariant-loop-j : goal.invariant-loop-j
invariant-loop-j l =
    (l.from ≡ filled (from_in l.sheet.bytes.now) l.j l.initial.from)
    × (l.to ≡ filled (to_in l.sheet.bytes.now) l.j l.initial.to)
    × (l.wires ≡ filled (λ i. wire_bound (registers_in l.sheet.bytes.now i)) l.j l.initial.wires)
    × (l.ceilings ≡ filled (λ i. ceiling_bound (ceiling_of 0) (registers_in l.sheet.bytes.now i)) l.j l.initial.ceilings)
