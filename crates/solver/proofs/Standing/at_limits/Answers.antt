use Rattle.solver.specs.Laws.Begun.{begun}
use Rattle.solver.proofs.Standing.at_limits.Goals as goal

pub returns : goal.returns
returns c = begun c.requires
