-- The links so far are a chain from the first link's start; each takes two words or more.
use Rattle.std.proofs.Common.{◌-◌, length}
use Rattle.loops.specs.Reads.{Chained}
use Rattle.loops.proofs.closes.Given as goal

abbrev pub invariant-loop-at : goal.invariant-loop-at
invariant-loop-at l = Chained l.offer.sheet.bytes.now l.offer.period l.offer.words.now l.first.a l.last l.sum l.links l.at

abbrev pub decreases-loop-at : goal.decreases-loop-at
decreases-loop-at l = length l.offer.words.now - l.at
