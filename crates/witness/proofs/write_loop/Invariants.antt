-- The words written are the links of the walk so far.
use Rattle.std.proofs.Common.{◌≡◌, length}
use Rattle.witness.specs.Walked.{Underway, far}
use Rattle.witness.proofs.write_loop.Given as goal

abbrev pub invariant-loop-v : goal.invariant-loop-v
invariant-loop-v l = (length l.words ≡ length l.fn.words) × Underway l.sheet.bytes.now l.given l.standing l.fn.broken l.start l.fn.words l.words l.at l.v

abbrev pub decreases-loop-v : goal.decreases-loop-v
decreases-loop-v l = far 64 l.standing.next l.v
