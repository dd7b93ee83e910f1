-- Link by link the rules add up.
use Rattle.descent.specs.Chain.{Chained}
use Rattle.descent.proofs.chain.follow.Given as goal

abbrev pub invariant-loop : goal.invariant-loop
invariant-loop l = Chained l.keys l.c l.start l.counter l.chain
