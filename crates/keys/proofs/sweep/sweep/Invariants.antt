-- Wire after wire is met in its turn.
use Rattle.keys.specs.Filling.{turn_at, Sweeping}
use Rattle.keys.specs.Ordered.{shape_of, weights_of}
use Rattle.keys.proofs.sweep.sweep.Given as goal

abbrev pub invariant-loop-p : goal.invariant-loop-p
invariant-loop-p l =
    let o = l.ordered in
    Sweeping (shape_of o) (weights_of o) (turn_at o.wiring.now.m o.turns.now l.way) l.initial.keys l.p l.versions.rows l.versions.seen l.keys l.lowered
