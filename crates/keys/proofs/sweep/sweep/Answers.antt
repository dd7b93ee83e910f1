-- Wire after wire is met in its turn.
use Prim.Native.Nat.{ℕ}
use native.Mathlib.Omega.{arith}
use mathlib.Core.Path.{ap}
use lib.ListN.{get_or}
use Rattle.paths.proofs.Way.{limits}
use Rattle.keys.specs.Laws.Order.{turns_below}
use Rattle.keys.specs.Laws.Sweep.{sweep_turn, sweep_ends}
use Rattle.keys.proofs.sweep.sweep.Goals as goal

pub loop-p-preserved : goal.loop-p-preserved
loop-p-preserved c =
    let o = c.args.ordered.now in
    let W = o.wiring.now.wires in
    sweep_turn (limits _ _ _ _ _ _ W o.small) W.few_blocks W.few_wires _ (turns_below o.complete _ c.place.ensures.1) (ap (λ (i : ℕ). get_or o.turns.now i 0) c.place.ensures.0) c.loop-p.invariant c.step-lowered.ensures

pub returns : goal.returns
returns c = sweep_ends c.args.way c.args.ordered.now.complete (omega arith) (omega arith) c.loop-p.invariant
