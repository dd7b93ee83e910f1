use Rattle.solver.proofs.Standing.sweep_wires.Goals as goal

pub relax-requires : goal.relax-requires
relax-requires g c = (c.loop-j.invariant.state, (c.requires.rules c.loop-j.j c.loop-j-test.true).1 _ c.rule.ensures)
