-- The wires found lead on from b, and complete the best paths to b to best paths.
use Rattle.witness.specs.Trace.{Tracing}
use Rattle.witness.proofs.trace.Pair.trace.Given as goal

abbrev pub invariant-loop-at : goal.invariant-loop-at
invariant-loop-at l = Tracing l.sheet.bytes.now l.given l.u l.v l.b l.at l.wires
