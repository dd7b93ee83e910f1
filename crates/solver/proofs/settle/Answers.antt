use Rattle.solver.proofs.settle.Goals as goal

pub returns : goal.returns
returns c = let T = c.in_ok-round.ensures in (T.state, (T.same c.if-branch.false).1)
