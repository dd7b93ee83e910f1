-- The wire that completes the entry is never behind.
use Rattle.sheet.specs.Core.{registers_in, shape_of}
use Rattle.witness.specs.Trace.{NoneBefore, registers_at, delay_at}
use Rattle.witness.proofs.trace.Pair.last_wire.Given as goal

abbrev pub invariant-loop-j : goal.invariant-loop-j
invariant-loop-j l = NoneBefore (shape_of l.self.sheet.bytes.now) (registers_in l.self.sheet.bytes.now) l.self.u l.self.v (registers_at l.self.given.now l.self.u l.self.v) (delay_at l.self.given.now l.self.u l.self.v) l.j
