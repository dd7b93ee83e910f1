-- Each record leaves fewer bytes.
use Rattle.std.proofs.Common.{length}
use Rattle.compare.proofs.cases.run.Given as goal

abbrev pub decreases-loop-rest : goal.decreases-loop-rest
decreases-loop-rest l = length l.rest
