-- Ceiling after ceiling is folded in.
use Rattle.keys.specs.Keys.{Folded}
use Rattle.keys.proofs.fold_ceilings.Given as goal

abbrev pub invariant-loop-j : goal.invariant-loop-j
invariant-loop-j l = Folded l.wiring l.j l.initial.keys l.keys
