-- Each wire has a rule, and so has its ceiling; the three sweeps go over all rules.
use Rattle.std.proofs.Common.{refl}
use Rattle.solver.specs.System.{wire, ceiling}
use Rattle.solver.specs.Laws.Sweep.{sweep_both, all_hold}
use Rattle.solver.proofs.Standing.round.Goals as goal

pub sweep_wires-requires-clause-rules : goal.sweep_wires-requires-clause-rules
sweep_wires-requires-clause-rules c = λ j h. (tt, λ r q. wire j h q refl refl refl)

pub sweep_wires-requires-2-clause-rules : goal.sweep_wires-requires-2-clause-rules
sweep_wires-requires-2-clause-rules c = λ j h. (tt, λ r q. ceiling j h q refl refl refl)

pub returns : goal.returns
returns c = sweep_both (sweep_both c.in_ok-lowered.ensures c.in_ok-lowered-2.ensures (λ l w v. (w, v))) c.in_ok-lowered-3.ensures all_hold
