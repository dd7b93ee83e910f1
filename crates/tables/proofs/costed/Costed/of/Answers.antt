-- Wire after wire is weighed.
use Rattle.std.proofs.Common.{rules, sym, arith, length-set, ◌≡◌, ℕ}
use Rattle.std.proofs.lemmas.List.{length-replicate}
use Rattle.sheet.specs.Laws.Filled.{filled_none, filled_turn}
use Rattle.tables.specs.Laws.Keys.{costs_of}
use Rattle.tables.proofs.costed.Costed.of.Goals as goal

pub loop-j-init : goal.loop-j-init
loop-j-init c = (search rules, sym (filled_none _ _))

pub loop-j-preserved : goal.loop-j-preserved
loop-j-preserved c = (simp length-set (omega (arith, c.loop-j.invariant.0)), filled_turn _ _ _ _ _ c.loop-j.invariant.1 c.cost_of.ensures)

pub invariant_of-result-clause-weighed : goal.invariant_of-result-clause-weighed
invariant_of-result-clause-weighed c =
    let e : c.loop-j.j ≡ c.args.wiring.now.m = omega arith in
    costs_of _ _ _ _ _ _ _ _ c.args.wiring.now.wires c.requires.small (length-replicate {A = ℕ} 256 0) (rw e at c.loop-j.invariant.1)
