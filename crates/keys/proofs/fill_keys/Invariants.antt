-- Every sweep but the last lowers the sum of the keys; after it all wires hold.
use Rattle.sheet.specs.Sum.{sum}
use Rattle.keys.specs.Filling.{Settling}
use Rattle.keys.specs.Ordered.{shape_of, weights_of}
use Rattle.keys.proofs.fill_keys.Given as goal

abbrev pub invariant-loop-versions : goal.invariant-loop-versions
invariant-loop-versions l = Settling (shape_of l.ordered) (weights_of l.ordered) l.versions.rows l.versions.seen l.keys

abbrev pub decreases-loop-versions : goal.decreases-loop-versions
decreases-loop-versions l = sum l.keys
