-- The wires so far lead on.
use Rattle.loops.specs.Reads.{Followed}
use Rattle.loops.proofs.path.follow.Given as goal

abbrev pub invariant-loop-wire : goal.invariant-loop-wire
invariant-loop-wire l = Followed l.sheet.bytes.now l.wires l.start l.wire-index l.path.to l.path.registers l.path.delay
