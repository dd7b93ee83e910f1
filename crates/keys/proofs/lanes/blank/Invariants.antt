-- Block after block gets itself.
use Rattle.keys.specs.Filling.{Blank}
use Rattle.keys.proofs.lanes.blank.Given as goal

abbrev pub invariant-loop-b : goal.invariant-loop-b
invariant-loop-b l = Blank l.b l.delays l.keys
