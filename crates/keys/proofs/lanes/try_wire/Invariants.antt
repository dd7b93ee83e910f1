-- Lane after lane is lowered to the wire's offer, or kept.
use Rattle.keys.specs.Filling.{Lanes}
use Rattle.keys.proofs.lanes.try_wire.Given as goal

abbrev pub invariant-loop-s : goal.invariant-loop-s
invariant-loop-s l = Lanes l.f l.t l.plus l.minus l.s l.initial.keys l.keys l.changed
