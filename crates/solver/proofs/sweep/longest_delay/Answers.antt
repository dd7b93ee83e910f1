use Rattle.std.proofs.Common.{ℕ, ◌<◌, ◌≤◌, List, length, get_or, arith}
use Rattle.std.proofs.Math.Decide.{dec_lt}
use Rattle.std.proofs.Math.ListN.{get_or-eq_default}
use Rattle.solver.specs.System.{Within}
use Rattle.solver.proofs.sweep.longest_delay.Goals as goal

-- past the table's end there is no delay
longest_found : (delays : List ℕ) (longest i : ℕ) → length delays ≤ i → ((j : ℕ) → j < i → get_or delays j 0 ≤ longest) → Within delays longest
longest_found delays longest i far below = record { all = λ j. go j (dec_lt j i) }
  where
    go : (j : ℕ) → Dec (j < i) → get_or delays j 0 ≤ longest
    go j (yes h) = below j h
    go j (no h) = omega (arith, get_or-eq_default {A = ℕ} delays 0 {n = j} (omega arith))

pub returns : goal.returns
returns c = longest_found c.args.delays.now _ _ (omega arith) c.loop-delay.invariant
