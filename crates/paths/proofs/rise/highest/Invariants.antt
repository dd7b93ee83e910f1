-- The best of the heights below v.
use Rattle.paths.specs.Rise.{Highest}
use Rattle.paths.proofs.rise.highest.Given as goal

abbrev pub invariant-loop-v : goal.invariant-loop-v
invariant-loop-v l = Highest l.heights l.v l.best
